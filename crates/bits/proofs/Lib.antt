pub mod Layouts
pub mod Words
pub mod Codecs
