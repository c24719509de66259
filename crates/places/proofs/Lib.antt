-- Laws of the digits of a place.
pub mod Digits
pub mod Twins
pub mod Flips
