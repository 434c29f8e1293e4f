pub mod Calm
pub mod Foretelling
pub mod Refusing
