-- Laws of what the symbols show, and of the answer.
pub mod ShownLaws
pub mod Unique
