pub mod Does
pub mod Done
