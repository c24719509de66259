-- Laws of all paths.
pub mod Times
pub mod Listed
pub mod Orders
pub mod UpTo
pub mod Members
pub mod Sorted
pub mod Increasing
pub mod LinkedPairs
pub mod Links
pub mod Counts
pub mod Reversed
pub mod Number
