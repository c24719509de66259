-- Laws of the tests, of tests behind others, and that there is one answer to each question.
mod Tests
mod Searches
mod Rungs
pub mod Unique
