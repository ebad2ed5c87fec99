pub mod Tracks
pub mod Reading
pub mod Limits
