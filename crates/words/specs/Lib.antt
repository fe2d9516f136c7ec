-- The words that a caller lends, and what a call leaves there; a filter as such words.
pub mod Words
pub mod Left
pub mod Once
pub mod Filter
pub mod Alone
