pub mod Lawful
pub mod Windows
pub mod Seen
pub mod Oldest
pub mod Standing
mod Adding
mod Beginnings
mod Counts
mod Extending
mod HandingIn
mod Remembering
mod Taking
