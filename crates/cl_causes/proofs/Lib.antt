mod Sessions
mod Transcripts
mod Claims
mod Growing
mod Entries
mod Past
mod Gone
mod Grants
mod Sends
mod Outstanding
mod Commands
mod Numbers
mod Refusals
mod Events
mod Ended
pub mod Runs
