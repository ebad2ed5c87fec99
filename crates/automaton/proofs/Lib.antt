pub mod Glushkov
pub mod Masks
pub mod Connect
pub mod Steps
