pub mod Faults
pub mod Values
pub mod Told
