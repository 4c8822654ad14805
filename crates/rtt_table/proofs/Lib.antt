pub mod Counted
pub mod Joined
mod Unlike
mod Copies
pub mod Ends
pub mod Steps
