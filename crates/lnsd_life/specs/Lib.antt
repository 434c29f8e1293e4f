pub mod FirstList
pub mod Marks
pub mod Rings
pub mod Served
