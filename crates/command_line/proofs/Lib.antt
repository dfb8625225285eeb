pub mod Meaning
pub mod Moments
mod Proven
