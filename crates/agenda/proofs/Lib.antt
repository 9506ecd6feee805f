pub mod Merges
pub mod Filled
