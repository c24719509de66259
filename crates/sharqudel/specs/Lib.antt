pub mod Crossing
pub mod Out
