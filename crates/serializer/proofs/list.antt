pub mod AreasLoop
pub mod Blocks
pub mod CheckLoop
pub mod ListCases
