mod Common
pub mod Lines
pub mod Number
pub mod Ticks
pub mod Utc
