-- Bounds of a shape in range, laws of dictionary order, of message numbers, of symbols, of outcomes, of half a turn, of
-- differences modulo q, of Best, of what decoding answers and of soft values that are all zero, the starred cases of 01
-- as one list with one claim, and samples of the other rules.
-- The other laws of the rules: crates places, paths, words, golay, spectrum, signals, distances, totals and pair.
pub mod Range
pub mod OrderLaws
pub mod Messages
pub mod SymbolLaws
pub mod OutcomeLaws
pub mod RefusalLaws
pub mod Turns
pub mod Differences
pub mod BestLaws
pub mod DecodingLaws
pub mod Silence
pub mod KnownWords
pub mod Samples
pub mod AreaSamples
