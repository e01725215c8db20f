pub mod Judging
pub mod Going
pub mod Playing
pub mod Running
pub mod Looked
pub mod Consumed
pub mod Every
pub mod Saying
