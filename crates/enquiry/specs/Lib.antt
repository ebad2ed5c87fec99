pub mod Records
pub mod Promises
pub mod Walks
