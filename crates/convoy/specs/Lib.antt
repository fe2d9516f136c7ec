-- The definitions that the contracts of `convoy` cite, and the laws of a row.
pub mod Row
pub mod RowLaws
pub mod Convoy
pub mod ConvoyLaws
