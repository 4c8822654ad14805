pub mod Worked
pub mod ThreadRun
