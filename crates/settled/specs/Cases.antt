-- K1 to K12: what document 01 says that each leaves, and the table that holds the definitions to it.
pub mod Expected
pub mod Table
