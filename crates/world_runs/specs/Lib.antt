pub mod RunText
pub mod Schedule
pub mod Played
