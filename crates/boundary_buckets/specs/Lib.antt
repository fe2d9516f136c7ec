-- A summary in the caller's memory.
pub mod Lent
