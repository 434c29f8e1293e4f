pub mod Messages
pub mod Answers
pub mod Replies
pub mod Writing
