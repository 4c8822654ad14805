mod Firsts
mod Grown
pub mod Elements
pub mod CallLaws
pub mod CpuLaws
pub mod OpenLaws
pub mod SlotLaws
