pub mod PhaseSweeps
pub mod OddTiles
pub mod NamedTiles
