pub mod Load
pub mod Frame
pub mod Reply
