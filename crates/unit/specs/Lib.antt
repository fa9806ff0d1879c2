pub mod Fault
pub mod Note
pub mod Unit
