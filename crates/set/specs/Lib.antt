pub mod Limits
pub mod Models
pub mod Sets
pub mod Heavy
