pub mod Frames
pub mod Octets
