-- Laws of the exported calls: what their cells hold, what a refusal carries, what the number tells, how each promise is
-- kept, and that only one ending keeps it.
pub mod CrossingLaws
pub mod Carried
pub mod Numbers
pub mod OutLaws
pub mod Unique
