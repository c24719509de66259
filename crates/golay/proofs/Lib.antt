-- Laws of Golay pairs: a word and its partner are a pair, pairs are words whose autocorrelations cancel, and at every
-- moment s / 2^r the envelope powers of a pair add up to 2 N.
pub mod Powers
pub mod Autocorrelations
pub mod Residues
pub mod Turning
pub mod Mates
pub mod Balance
pub mod LabelPairs
pub mod HalfMaps
pub mod Moments
pub mod Envelopes
