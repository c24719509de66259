-- Laws of the soft values.
pub mod ToneLaws
