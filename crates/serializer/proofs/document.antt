pub mod OneDocument
pub mod TakeCases
