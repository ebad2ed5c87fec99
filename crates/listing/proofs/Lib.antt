pub mod Turns
pub mod Ranks
pub mod Ends
pub mod Agreeing
pub mod Sides
pub mod Openings
