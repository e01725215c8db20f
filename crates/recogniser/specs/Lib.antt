pub mod Numbers
pub mod Formula
pub mod Counts
