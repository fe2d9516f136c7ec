-- The definitions that the contracts of `velocity` cite.
pub mod Velocity
pub mod VelocityLaws
