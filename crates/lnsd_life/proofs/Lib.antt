mod Decided
mod Ending
mod Making
mod Marking
mod Numbered
