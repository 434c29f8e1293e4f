pub mod Reading
pub mod Spelling
pub mod Field
