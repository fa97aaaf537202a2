pub mod Fact
