pub mod Terms
pub mod Layout
pub mod Faults
pub mod Form
pub mod Reading
pub mod Examples
pub mod Pages
