pub mod Parsers
pub mod Verdict
pub mod Turns
