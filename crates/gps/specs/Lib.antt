-- The definitions that the contracts of `gps` cite, and the laws beside them.
pub mod Answers
pub mod Gps
pub mod Laws
pub mod UpdateLaws
pub mod Clock
pub mod Cases
