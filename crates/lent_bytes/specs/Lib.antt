-- Bytes read from a place, and what writing bytes leaves.
pub mod Read
pub mod ReadLaws
pub mod Wrote
