-- Laws of the table of the paths in use.
pub mod PathTable
