pub mod Crash
pub mod Fuse
pub mod MemDisk
pub mod Outlook
pub mod State
pub mod Tracking
