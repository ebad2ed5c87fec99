pub mod Readings
pub mod Run
pub mod Positions
pub mod Tables
pub mod Step
