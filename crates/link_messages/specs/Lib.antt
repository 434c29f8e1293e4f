pub mod Wire
pub mod Message
pub mod MessageReading
pub mod Stream
pub mod Feeding
pub mod Steps
