pub mod Busy
pub mod Turns
pub mod Back
pub mod Totals
