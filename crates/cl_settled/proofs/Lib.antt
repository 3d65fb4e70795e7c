mod Breaking
mod Growing
mod Going
mod Turning
mod Runs
pub mod Agreeing
