pub mod Shares
pub mod Groups
pub mod Facts
pub mod Answers
