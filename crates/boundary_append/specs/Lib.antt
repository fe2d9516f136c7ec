-- What a call of the writer leaves in the caller's memory.
pub mod Lent
