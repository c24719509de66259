pub mod Arrays
pub mod Forms
pub mod Sent
