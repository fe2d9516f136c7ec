-- The five wrong filters of document 01: each made, and the statement that it falls to.
pub mod Made
pub mod Fall
