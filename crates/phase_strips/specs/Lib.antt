pub mod Limits
pub mod Courses
pub mod Strips
pub mod Worth
