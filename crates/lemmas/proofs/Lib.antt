pub mod Tests
pub mod Elements
pub mod ResultLaws
pub mod Finds
pub mod Options
pub mod Members
pub mod Appended
