pub mod Callers
pub mod Seen
