pub mod Lines
pub mod Ahead
pub mod Statement
