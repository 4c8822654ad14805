pub mod Plays
pub mod Faults
pub mod Sources
