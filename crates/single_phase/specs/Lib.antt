pub mod Block
pub mod OddTiles
