pub mod Hearing
pub mod Named
