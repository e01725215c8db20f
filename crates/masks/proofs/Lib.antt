pub mod Words
pub mod Members
pub mod Ranges
pub mod Statuses
