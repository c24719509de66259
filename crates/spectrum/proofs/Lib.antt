-- Laws of the spectrum and its stages.
pub mod StagePairs
pub mod Blocks
pub mod Shared
pub mod Entries
pub mod Places
pub mod Bounds
