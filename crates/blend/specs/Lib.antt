-- The definitions that the contract of `blend` cites, and the laws beside them.
pub mod Ranges
pub mod Answers
pub mod Blend
