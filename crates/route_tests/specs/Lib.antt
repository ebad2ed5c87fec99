pub mod Own
pub mod Laws
