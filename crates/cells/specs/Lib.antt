pub mod Heads
pub mod Making
