pub mod Keyed
pub mod Ranked
