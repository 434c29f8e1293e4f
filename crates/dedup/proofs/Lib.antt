pub mod GroupLemmas
pub mod Standing
pub mod Places
pub mod Gathered
pub mod Keeping
pub mod Refusing
