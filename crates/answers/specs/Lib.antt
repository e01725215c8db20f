pub mod Cases
pub mod Observe
pub mod Every
