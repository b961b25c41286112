pub mod Numbered
pub mod Own
pub mod Alike
pub mod Flowing
