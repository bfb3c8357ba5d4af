pub mod Seeing
pub mod Events
pub mod Numbered
pub mod TurnSeats
