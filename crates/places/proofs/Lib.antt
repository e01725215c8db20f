pub mod Naming
pub mod Reading
