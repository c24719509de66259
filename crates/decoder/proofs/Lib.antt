-- Laws of the decoder's steps.
pub mod Casts
pub mod FilledGains
pub mod Values
pub mod Lengths
