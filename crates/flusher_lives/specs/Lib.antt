pub mod Coming
pub mod CoreLives
pub mod Deciding
pub mod OverLives
