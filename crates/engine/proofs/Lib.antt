-- Laws of the search: its tables, its labels, its paths, and what it takes.
pub mod Pieces
pub mod RunLaws
pub mod Counting
pub mod Climbing
pub mod PathLaws
pub mod Sending
pub mod Accepting
