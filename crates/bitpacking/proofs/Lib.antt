pub mod Filled
pub mod Pending
pub mod Rest
pub mod Room
pub mod Rows
pub mod Shifts
pub mod Width
