pub mod FrameFields
pub mod FrameLaws
pub mod Lengths
pub mod Requests
