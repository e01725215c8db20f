pub mod Leaving
pub mod Verdicts
pub mod Every
