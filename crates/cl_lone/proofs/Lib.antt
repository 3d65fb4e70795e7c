pub mod Growing
pub mod Asking
pub mod Controlling
pub mod Deciding
pub mod Lone
