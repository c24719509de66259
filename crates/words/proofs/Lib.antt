-- Laws of labels and words.
pub mod Labels
pub mod Horner
pub mod Order
pub mod Forms
pub mod Readings
pub mod Used
pub mod Partners
pub mod Around
pub mod StepBefore
pub mod FourForms
