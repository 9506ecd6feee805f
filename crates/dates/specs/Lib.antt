pub mod Dates
pub mod Tables
pub mod Phases
pub mod Delays
pub mod Closures
pub mod Lists
pub mod Agendas
