pub mod Marks
pub mod Scanning
pub mod Heading
