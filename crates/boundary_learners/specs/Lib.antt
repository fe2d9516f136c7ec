-- The layout and the operations of each component in the memory that a caller lends.
pub mod Functions
pub mod Lowpass
pub mod Orientation
pub mod Wide
pub mod WideLaws
pub mod Gps
pub mod Tilt
pub mod Index
pub mod YawRate
pub mod YawRateLaws
pub mod Aligner
