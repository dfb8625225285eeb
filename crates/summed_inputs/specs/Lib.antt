pub mod Common
pub mod Answer
pub mod Holding
pub mod InputBytes
pub mod Shown
pub mod Sums
