pub mod Numbers
pub mod Table
pub mod Moves
pub mod Counts
