pub mod Causes
pub mod Lines
pub mod Lives
pub mod NamesFile
pub mod Printed
pub mod Told
