pub mod Copies
pub mod LaidStrips
pub mod Courses
pub mod Loads
pub mod EdgeRows
pub mod StripParts
pub mod Flows
