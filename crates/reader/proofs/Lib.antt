pub mod Table
pub mod Spelled
pub mod Lexing
