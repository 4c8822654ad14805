pub mod Common
pub mod Calls
pub mod CpuLists
pub mod Causes
pub mod Closes
pub mod Passes
pub mod ToldLines
