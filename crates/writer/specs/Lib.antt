-- A record appended to a log, and a log written record by record.
pub mod Append
pub mod AppendLaws
pub mod Answered
pub mod Log
pub mod Cases
