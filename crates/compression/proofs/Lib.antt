pub mod Differences
pub mod Frequencies
pub mod InPlace
