pub mod Search
pub mod SearchTables
