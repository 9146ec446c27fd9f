pub mod Calls
pub mod EnoughRoom
pub mod Lists
pub mod Pieces
pub mod Whole
pub mod Writer
