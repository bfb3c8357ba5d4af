pub mod Canonical
pub mod CanonicalCommands
pub mod LineWords
pub mod Spacing
