pub mod Asking
pub mod Performing
pub mod Reading
pub mod Serving
