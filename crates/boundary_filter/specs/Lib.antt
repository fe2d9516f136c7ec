-- The operations of the filter in the memory that a caller lends.
pub mod Filter
