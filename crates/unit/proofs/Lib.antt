pub mod Slots
pub mod Queueing
