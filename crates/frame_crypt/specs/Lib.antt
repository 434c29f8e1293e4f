pub mod Frames
pub mod Joins
