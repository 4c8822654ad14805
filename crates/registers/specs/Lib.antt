pub mod Leads
pub mod Growing
pub mod Owners
pub mod Calls
pub mod Cpus
pub mod Slots
pub mod Opens
