pub mod Admit
pub mod Tested
