-- The definitions that the contracts of `orientation` cite, and the laws beside them.
pub mod Answers
pub mod Orientation
pub mod Laws
