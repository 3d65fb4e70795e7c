pub mod Grants
pub mod Laws
pub mod Listed
pub mod Table
