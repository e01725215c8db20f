mod Indices
mod Sets
mod Puts
mod Numbers
mod Kept
mod Changes
mod Columns
pub mod Flags
pub mod Status
pub mod Settled
mod Moving
mod Taking
mod Within
pub mod Links
pub mod Sound
