pub mod FoundBlock
