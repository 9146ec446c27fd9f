pub mod CloseCases
