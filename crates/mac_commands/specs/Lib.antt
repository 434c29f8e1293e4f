pub mod Table
pub mod Commands
pub mod Front
pub mod Queueable
pub mod Reading
