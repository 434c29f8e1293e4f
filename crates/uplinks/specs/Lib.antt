pub mod Chain
pub mod Uplink
pub mod Fit
pub mod Accepted
pub mod Step
pub mod Arrival
pub mod Candidates
