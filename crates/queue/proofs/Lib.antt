pub mod Holes
pub mod Sifted
pub mod Stays
