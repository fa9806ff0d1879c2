pub mod Numbers
pub mod Machines
