pub mod Common
pub mod SameLists
pub mod LikeStates
pub mod Patched
pub mod Noted
pub mod PatchKeys
pub mod PatchViews
