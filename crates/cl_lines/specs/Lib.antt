pub mod Words
pub mod Line
pub mod Forms
pub mod Spelling
pub mod Out
pub mod Laws
