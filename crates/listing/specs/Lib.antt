pub mod Events
pub mod Rank
pub mod Pairs
pub mod Queries
pub mod Puts
