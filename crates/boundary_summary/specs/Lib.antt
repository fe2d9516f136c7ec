-- A log's summary in the caller's memory.
pub mod Stored
