pub mod OneAnswer
pub mod Fine
pub mod First
pub mod Numbers
pub mod Position
