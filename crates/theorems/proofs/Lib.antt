-- The theorems, proved: Proved has the whole index, the others what its claims need.
pub mod Slices
pub mod Rows
pub mod PairRows
pub mod DecodingRows
pub mod TransformRows
pub mod Transforming
pub mod Formula
pub mod PairChecks
pub mod Damage
pub mod RoundTrips
pub mod Proved
