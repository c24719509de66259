pub mod Totals
pub mod Climb
pub mod Gains
