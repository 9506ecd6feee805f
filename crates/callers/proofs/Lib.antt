pub mod Entries
pub mod Rosters
pub mod Steps
