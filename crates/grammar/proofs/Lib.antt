pub mod Leaving
pub mod Complete
pub mod Sound
pub mod Plainly
