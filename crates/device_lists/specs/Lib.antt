pub mod Columns
pub mod Rows
pub mod Values
pub mod Export
pub mod Lists
