pub mod Digits
pub mod Nanoseconds
pub mod Ratio
pub mod Stamp
pub mod Window
