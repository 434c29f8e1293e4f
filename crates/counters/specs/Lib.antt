pub mod Counter
pub mod FirstFrom
pub mod Rebuilt
