-- Laws of soft values, correlations and distances.
pub mod Hearing
pub mod Distances
pub mod Weights
pub mod Metric
pub mod Damage
pub mod Sizes
pub mod Clean
pub mod Units
pub mod Noiseless
