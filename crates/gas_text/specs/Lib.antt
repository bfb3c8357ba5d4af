pub mod Requests
pub mod Texts
pub mod Words
