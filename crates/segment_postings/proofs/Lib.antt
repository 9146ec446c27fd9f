pub mod Admission
pub mod Laws
pub mod Simulation
