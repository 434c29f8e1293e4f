pub mod Change
pub mod Device
pub mod Faults
pub mod Table
pub mod Marks
pub mod Waiting
