pub mod Frames
pub mod Round
pub mod Whole
