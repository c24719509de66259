-- Laws of gains and totals.
pub mod GainSamples
pub mod Runs
pub mod Linear
pub mod Words
pub mod Stages
pub mod Totals
pub mod GainTables
pub mod SoftTotals
pub mod HardTotals
pub mod Answers
