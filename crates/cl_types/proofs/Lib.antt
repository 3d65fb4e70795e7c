pub mod DecimalLaws
pub mod Digits
pub mod Modes
pub mod PlacementLaws
pub mod Places
pub mod Strength
pub mod Transactions
