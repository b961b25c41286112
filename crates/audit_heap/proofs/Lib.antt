pub mod Tested
pub mod Marking
