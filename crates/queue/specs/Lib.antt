pub mod Heaps
pub mod Queues
pub mod Sifting
