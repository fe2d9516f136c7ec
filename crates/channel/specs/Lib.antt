-- The definitions that the channels share.
pub mod Ranges
pub mod Answers
pub mod Kalman
pub mod Gate
pub mod GateLaws
pub mod KalmanLaws
