-- The definitions that the contracts of `position` cite.
pub mod Position
pub mod PositionLaws
pub mod Fix
pub mod RunLaws
pub mod UpdateLaws
