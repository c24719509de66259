-- Laws of the encoder's steps.
pub mod Bounds
pub mod Matrix
pub mod FromFn
pub mod Divide
pub mod Formula
pub mod SentLaws
pub mod Unique
