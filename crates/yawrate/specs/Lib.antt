-- The definitions that the contracts of `yawrate` cite, and the laws beside them.
pub mod Ranges
pub mod Answers
pub mod Ring
pub mod RingLaws
pub mod RingSums
pub mod YawRate
pub mod Laws
pub mod Stored
pub mod HeadingLaws
