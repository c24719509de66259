-- Laws of answers, and of the promises over them.
pub mod Unique
