mod Common
pub mod OutputSteps
pub mod Closing
pub mod PartedText
pub mod FaultText
pub mod InputIntake
pub mod Reading
mod CertificateFaults
pub mod LinelessRefusal
