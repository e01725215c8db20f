pub mod Bounds
pub mod WordLaws
pub mod Names
