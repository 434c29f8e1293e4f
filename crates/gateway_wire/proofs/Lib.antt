mod LineLengths
mod HexPut
mod UpLines
pub mod RequestFinding
pub mod RequestLines
pub mod DeviceLines
