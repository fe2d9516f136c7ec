-- The definitions that the contracts of `aligner` cite, and the laws beside them.
pub mod Ranges
pub mod Answers
pub mod Aligner
pub mod Laws
pub mod CallLaws
