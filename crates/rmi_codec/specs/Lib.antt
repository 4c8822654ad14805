pub mod Faults
pub mod Spaced
pub mod Limited
pub mod Head
pub mod FunctionText
pub mod Newlines
