pub mod Packing
pub mod Kept
pub mod Fronts
pub mod Trips
