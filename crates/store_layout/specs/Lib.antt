pub mod Superblock
pub mod Entries
pub mod ReadEntry
