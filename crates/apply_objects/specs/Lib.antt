pub mod Asks
pub mod Laws
