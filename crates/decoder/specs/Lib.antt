pub mod Seen
pub mod Found
