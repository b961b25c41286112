pub mod Flow
pub mod Exact
pub mod Demands
