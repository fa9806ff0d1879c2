pub mod Limits
pub mod Counts
pub mod Fault
pub mod Queue
