pub mod Labs
pub mod Copying
