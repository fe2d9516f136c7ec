-- The caller's words after a replay.
pub mod Replayed
