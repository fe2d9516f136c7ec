-- The summary of a log.
pub mod Summarized
pub mod SummarizedLaws
pub mod Counted
