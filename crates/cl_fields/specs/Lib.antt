pub mod Spelling
pub mod Range
pub mod Reading
