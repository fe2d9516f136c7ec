-- The definitions that the contracts of `ekf` cite, and the order theorem.
pub mod Filter
pub mod FilterLaws
pub mod Making
pub mod Predict
pub mod Gained
pub mod PredictLaws
pub mod Machines
pub mod Calls
pub mod Order
