pub mod ReportTrips
pub mod Opened
pub mod Sequence
pub mod SpduTrips
pub mod Laws
