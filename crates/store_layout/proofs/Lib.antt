pub mod EntryLaws
pub mod Replays
mod SoundTables
mod Tables
