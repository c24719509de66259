-- The index of theorems (Theorems): a file for each demand, for the transform and for further facts; before them names,
-- and the rows of the table, which they share.
pub mod Names
pub mod Rows
pub mod Demand1
pub mod Demand2
pub mod Demand3
pub mod Transforms
pub mod Further
pub mod Theorems
