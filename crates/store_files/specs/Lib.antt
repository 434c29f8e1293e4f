pub mod Cause
pub mod Images
pub mod Record
pub mod Report
