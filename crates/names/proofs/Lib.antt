pub mod Digits
pub mod Sets
