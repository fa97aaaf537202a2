pub mod Sets
pub mod Walk
pub mod Span
pub mod Padded
pub mod Tabled
pub mod Tests
pub mod Laid
pub mod Every
