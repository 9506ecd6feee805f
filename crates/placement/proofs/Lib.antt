pub mod Rises
pub mod Carries
pub mod Walks
pub mod Keeps
pub mod Bounds
pub mod Steps
pub mod Facts
