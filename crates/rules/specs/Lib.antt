-- Document 01 as definitions, a file for each subject, in the document's order; Autocorrelation and Envelope say 001's
-- condition and power.
pub mod Shape
pub mod Place
pub mod Path
pub mod Label
pub mod Word
pub mod Symbols
pub mod Pair
pub mod Autocorrelation
pub mod Envelope
pub mod Distance
pub mod Soft
pub mod Best
pub mod Spectrum
pub mod Outcome
pub mod Table
pub mod Refusal
pub mod Decoding
pub mod Areas
pub mod Known
