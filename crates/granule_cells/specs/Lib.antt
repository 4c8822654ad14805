pub mod Seen
pub mod Sides
pub mod Changes
pub mod MadeLaws
pub mod OneCell
pub mod PlaceLaws
pub mod Rooms
