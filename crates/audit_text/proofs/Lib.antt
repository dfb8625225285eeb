mod Common
pub mod PlainLines
pub mod Rows
pub mod Shown
pub mod Lines
pub mod Beyond
pub mod Sources
