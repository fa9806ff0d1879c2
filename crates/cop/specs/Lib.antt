pub mod Number
pub mod Sender
pub mod Receiver
pub mod Laws
