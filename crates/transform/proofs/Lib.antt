-- Laws of the transform: a stage, the stages between two areas, what they leave, and that only one
-- outcome is promised; then, in the logic of loans, the call of `run` and the part that is handed out.
pub mod Bits
pub mod Halves
pub mod Stages
pub mod Between
pub mod AreasAfter
pub mod Unique
pub mod Again
pub mod Calling
pub mod Handing
pub mod Walking
pub mod Edges
