pub mod View
pub mod Executed
pub mod Held
pub mod Causes
pub mod Cpus
pub mod Closed
pub mod ToldOrder
pub mod Ordered
