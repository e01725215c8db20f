pub mod Tables
pub mod Books
pub mod Looks
