mod Batches
mod Buffers
mod Gates
mod Headers
mod Holding
mod Pairs
pub mod ReadsOn
mod Recovering
mod Results
mod Slices
mod Spelling
mod Steps
mod Unique
