pub mod Fault
pub mod Header
pub mod Frame
