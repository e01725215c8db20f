pub mod Twelve
pub mod Outcomes
