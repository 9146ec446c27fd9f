pub mod AdmissionExact
pub mod LandingReads
pub mod WalkByBlocks
pub mod WalkByCalls
pub mod WalkReads
pub mod WalkTurns
