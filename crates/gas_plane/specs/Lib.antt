pub mod Tiles
pub mod Planes
pub mod Lending
pub mod Counts
pub mod Turning
