-- A row of filters in the caller's memory.
pub mod Row
pub mod RowLaws
