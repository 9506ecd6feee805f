pub mod Lines
pub mod Pages
pub mod Texts
pub mod Printing
pub mod Showing
