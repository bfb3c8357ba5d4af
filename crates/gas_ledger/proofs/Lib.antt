pub mod Strips
pub mod Moving
pub mod MetTiles
pub mod Running
pub mod Stepping
pub mod Editing
