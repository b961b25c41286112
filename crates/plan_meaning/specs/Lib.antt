pub mod Planned
pub mod Asked
pub mod Settled
pub mod Suits
pub mod Bridge
