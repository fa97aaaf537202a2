pub mod Reading
pub mod Written
pub mod Words
pub mod Said
pub mod Theorem
pub mod OneAnswer
