pub mod Ascii
pub mod Decimal
pub mod Escaped
pub mod Written
pub mod Wrote
