pub mod Laws
pub mod Keys
