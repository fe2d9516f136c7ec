-- The definitions that the contracts of `lowpass` cite, and the laws beside them.
pub mod Ranges
pub mod Answers
pub mod Lowpass
pub mod AngleLimit
pub mod AngleLaws
pub mod MakingLaws
pub mod Laws
