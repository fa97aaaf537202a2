mod Words
mod Scans
mod Turn
mod Again
mod Advance
mod Put
mod Passing
mod Fill
mod Ends
mod Start
mod Write
mod Written
mod Answers
pub mod OneAnswer
pub mod Planned
