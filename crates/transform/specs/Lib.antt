pub mod Transformed
pub mod Butterflies
