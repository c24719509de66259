-- Laws of the distances between words.
pub mod Gaps
pub mod Averages
pub mod Flipped
pub mod PartsApart
pub mod Apart
pub mod Inject
