-- Laws of the numbers of a shape.
pub mod Powers
