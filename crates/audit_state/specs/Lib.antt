pub mod Descent
pub mod Audit
