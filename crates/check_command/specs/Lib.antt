pub mod Ending
pub mod Faults
pub mod Memory
pub mod Judgement
pub mod Taken
