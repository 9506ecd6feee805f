pub mod Bytes
pub mod Rows
pub mod Faultless
pub mod Headers
pub mod Files
pub mod Writings
pub mod Makings
pub mod Longer
