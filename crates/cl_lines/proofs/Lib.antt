pub mod Cuts
pub mod Bytes
pub mod Forms
pub mod Lengths
pub mod Spellings
pub mod Printed
pub mod Readings
