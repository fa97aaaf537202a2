pub mod Orders
pub mod Compared
pub mod Laid
pub mod Answers
pub mod OneAnswer
pub mod Theorem
