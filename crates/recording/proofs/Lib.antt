pub mod Runs
pub mod Written
pub mod Accepted
pub mod Faults
