-- What a record does, and the verdicts of a log.
pub mod Entry
pub mod Replay
pub mod ReplayLaws
pub mod Editions
pub mod Fold
pub mod Marks
pub mod Gated
pub mod Run
pub mod Order
pub mod ByRecord
pub mod Refused
pub mod ByList
