pub mod Commands
pub mod Presence
pub mod Worked
pub mod Whole
