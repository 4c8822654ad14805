pub mod Common
pub mod Hearings
pub mod Orders
pub mod Steps
pub mod Stands
pub mod Passes
pub mod Wholes
