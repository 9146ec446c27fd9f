pub mod Replay
pub mod Sample
