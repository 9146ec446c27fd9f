pub mod Question16
pub mod Waiting
