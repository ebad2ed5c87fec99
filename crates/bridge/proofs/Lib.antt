pub mod Spell
pub mod Readings
pub mod Walk
pub mod Agreed
