mod Common
pub mod Quiet
pub mod TwoLines
