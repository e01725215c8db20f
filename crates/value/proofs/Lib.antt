pub mod Values
pub mod Agreement
pub mod Sixteen
