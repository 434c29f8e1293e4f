pub mod Join
pub mod Request
