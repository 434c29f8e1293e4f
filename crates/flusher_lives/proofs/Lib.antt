pub mod CoreLives
pub mod Decided
pub mod MoreLives
pub mod Once
pub mod Turned
