pub mod Counted
pub mod Faults
pub mod Named
pub mod Orders
