pub mod Plans
pub mod Calls
pub mod Cuts
pub mod Unused
pub mod Facts
