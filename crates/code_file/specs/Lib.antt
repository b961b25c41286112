pub mod Table
pub mod Heads
