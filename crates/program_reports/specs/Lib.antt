pub mod Contents
pub mod Json
