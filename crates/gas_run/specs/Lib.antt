pub mod Loading
pub mod Plans
pub mod Running
pub mod Statuses
