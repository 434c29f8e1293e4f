pub mod Crash
pub mod Failing
pub mod Recovers
pub mod Restoring
