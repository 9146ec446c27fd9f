pub mod Counts
pub mod Hits
pub mod Search
