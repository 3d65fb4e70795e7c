pub mod Asked
pub mod Course
pub mod Making
pub mod Turns
pub mod Schedule
