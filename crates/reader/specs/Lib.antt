pub mod Classes
pub mod Words
pub mod Tokens
pub mod Symbols
