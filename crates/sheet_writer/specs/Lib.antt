pub mod Parts
pub mod Wrote
pub mod Writing
