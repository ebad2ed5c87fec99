pub mod Reaches
pub mod Searches
pub mod Follow
pub mod Turns
pub mod Deliver
pub mod Trails
