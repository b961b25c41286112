pub mod Choices
pub mod Tests
pub mod Members
pub mod Stores
pub mod Cuts
pub mod Records
