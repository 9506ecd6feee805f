pub mod Blanks
pub mod Weights
pub mod Faults
pub mod Slots
pub mod Arrays
pub mod Sames
pub mod Heavies
