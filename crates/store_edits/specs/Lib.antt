pub mod Changes
pub mod Counts
