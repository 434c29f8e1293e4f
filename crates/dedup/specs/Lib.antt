pub mod Groups
pub mod Windows
pub mod Kept
