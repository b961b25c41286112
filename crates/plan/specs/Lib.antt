pub mod Ready
pub mod Kinds
pub mod Arms
