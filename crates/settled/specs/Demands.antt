-- The three demands: as records, that they are met, and that no call gives 7 to 10.
pub mod Stated
pub mod Met
pub mod Numbers
