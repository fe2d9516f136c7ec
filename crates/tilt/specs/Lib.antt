-- The definitions that the contracts of `tilt` cite, and the laws beside them.
pub mod Answers
pub mod Tilt
pub mod Laws
