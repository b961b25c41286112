pub mod Starts
pub mod Runs
