pub mod LongestVectors
pub mod FirstFaults
