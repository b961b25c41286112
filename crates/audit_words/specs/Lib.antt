pub mod Every
pub mod Table
pub mod Stack
