-- The definitions that the contracts of `yaw` cite.
pub mod Yaw
pub mod YawLaws
