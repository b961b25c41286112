pub mod Applies
pub mod Applied
pub mod Ended
