mod Common
pub mod FieldRoom
pub mod Digits
pub mod Last
pub mod Pairs
pub mod Tables
pub mod Threes
pub mod Parts
pub mod Columns
pub mod Ends
pub mod Calendar
pub mod Readback
pub mod Moments
