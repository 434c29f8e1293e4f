pub mod Piecing
pub mod Reading
pub mod Refusing
pub mod Turning
