pub mod FieldLaws
pub mod Loops
pub mod Rows
pub mod HeadLaws
pub mod GasLaws
pub mod Faults
pub mod Pages
pub mod Writes
