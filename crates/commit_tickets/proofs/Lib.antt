pub mod Common
pub mod Disagreements
pub mod Entered
pub mod Lists
pub mod Moves
pub mod Rising
pub mod Runs
