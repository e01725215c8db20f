pub mod Holding
pub mod Rulewise
pub mod Taking
pub mod Observing
pub mod Agreement
