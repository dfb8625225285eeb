pub mod Common
pub mod LeastLine
pub mod Envelope
