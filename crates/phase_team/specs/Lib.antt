pub mod Tiles
pub mod Teamwork
