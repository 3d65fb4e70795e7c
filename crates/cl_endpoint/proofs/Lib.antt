pub mod Links
pub mod DueMessages
pub mod Emissions
pub mod Gives
pub mod InTurn
pub mod Carried
pub mod Receiving
pub mod Noting
