pub mod Firsts
pub mod Fine
