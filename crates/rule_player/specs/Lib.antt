pub mod Choice
pub mod Rounds
pub mod Said
pub mod Playing
pub mod Passing
