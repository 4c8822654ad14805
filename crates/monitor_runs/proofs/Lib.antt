pub mod Coming
pub mod Waiting
pub mod Closed
