pub mod Alive
pub mod Planning
pub mod Settling
