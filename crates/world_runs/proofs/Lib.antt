pub mod Turning
pub mod Scenarios
pub mod Printed
pub mod One
