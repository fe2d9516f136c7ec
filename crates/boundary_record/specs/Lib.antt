-- The caller's words after a record's turn, and a log replayed so.
pub mod Recorded
pub mod Handed
