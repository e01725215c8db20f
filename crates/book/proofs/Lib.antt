pub mod Steps
pub mod Turns
pub mod TableLaws
pub mod SetLaws
pub mod Lookups
pub mod Places
pub mod Translated
