pub mod Contents
pub mod Frame
pub mod Reading
pub mod SeenFrame
pub mod Seen
