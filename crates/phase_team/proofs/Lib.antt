pub mod NumberSums
pub mod Takings
pub mod Places
pub mod DrawnNumbers
pub mod Closing
