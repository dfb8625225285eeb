pub mod Bytes
pub mod Fault
pub mod Intake
pub mod Pace
pub mod State
pub mod Double
