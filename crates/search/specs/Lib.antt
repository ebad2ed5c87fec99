pub mod Spaces
pub mod Listings
pub mod Hunts
pub mod Trails
