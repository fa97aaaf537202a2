pub mod Written
pub mod Decimal
pub mod Digits
pub mod OneAnswer
pub mod Escaped
pub mod Wrote
