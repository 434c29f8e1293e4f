pub mod Best
pub mod Equal
pub mod Gateways
mod MacCommands
pub mod OneMore
