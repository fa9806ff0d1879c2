pub mod Fault
pub mod Packed
pub mod Rule
pub mod Rate
pub mod Link
pub mod Directive
