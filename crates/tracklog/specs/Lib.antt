-- The log's format and its reader.
pub mod Format
pub mod Reader
pub mod ReaderLaws
pub mod Behind
pub mod Record
pub mod Reading
pub mod ReadBack
pub mod ReadingLaws
pub mod Cases
