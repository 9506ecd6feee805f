pub mod Rules
pub mod Placing
