pub mod Outcomes
mod Records
