pub mod Flaws
pub mod Keys
pub mod FirstLine
pub mod Found
