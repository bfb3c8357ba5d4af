pub mod Ends
pub mod LabTalk
pub mod Lines
pub mod Private
pub mod Scripts
pub mod Talk
