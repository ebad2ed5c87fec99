pub mod Leavings
pub mod Indexes
pub mod Described
pub mod Sheets
pub mod FirstFaults
pub mod Ranges
pub mod Owners
