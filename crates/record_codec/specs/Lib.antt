pub mod Version
pub mod DeviceRecord
pub mod Reading
pub mod Writing
pub mod Parts
pub mod Change
pub mod ChangeReading
pub mod Answers
