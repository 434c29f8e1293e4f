pub mod Fits
mod Candidates
