pub mod Log
pub mod Runs
