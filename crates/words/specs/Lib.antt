pub mod Upto
pub mod Words
