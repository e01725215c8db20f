pub mod Lengths
pub mod Putting
pub mod Own
pub mod Injective
pub mod Writing
