pub mod Asking
pub mod Cutting
pub mod Performing
pub mod Reading
pub mod Serving
