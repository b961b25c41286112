pub mod Shape
pub mod Site
pub mod Kinds
pub mod Tests
pub mod Rows
