pub mod Patches
pub mod Noted
pub mod PatchKeys
