pub mod Exports
pub mod Reading
