pub mod Words
pub mod Cells
