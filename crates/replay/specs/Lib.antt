-- What the program reads, and what its buffer holds.
pub mod Input
pub mod Shown
