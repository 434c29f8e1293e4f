pub mod Reading
pub mod Queues
pub mod CommandsIn
