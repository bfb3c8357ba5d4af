pub mod PortLists
pub mod Gases
pub mod Books
