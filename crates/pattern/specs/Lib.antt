pub mod Texts
pub mod Parts
pub mod Stack
pub mod Parsing
pub mod Verdicts
