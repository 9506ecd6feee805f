pub mod Filling
pub mod Merging
