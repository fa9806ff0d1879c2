pub mod Report
pub mod Item
pub mod Items
pub mod Spdu
