pub mod Fault
pub mod Line
pub mod Fade
pub mod Transfer
pub mod Memory
