-- Laws of the standing of a search.
pub mod Passing
pub mod Lead
pub mod Leading
