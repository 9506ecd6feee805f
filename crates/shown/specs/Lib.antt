pub mod Examples
pub mod Further
