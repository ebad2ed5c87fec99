pub mod Wording
pub mod Deliveries
pub mod Cursors
pub mod Deepen
pub mod Ways
pub mod Judged
pub mod Chunks
