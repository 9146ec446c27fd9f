pub mod TotalInBlocks
pub mod TotalLoop
