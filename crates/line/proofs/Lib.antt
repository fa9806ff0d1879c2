pub mod Meaning
pub mod Laying
