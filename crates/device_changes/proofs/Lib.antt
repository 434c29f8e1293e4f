pub mod Follows
pub mod Places
pub mod Rows
pub mod Covering
pub mod Steps
