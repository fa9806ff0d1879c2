pub mod Held
pub mod Directives
