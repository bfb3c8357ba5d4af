pub mod Pages
pub mod Written
