pub mod Fault
pub mod Line
pub mod Name
pub mod Reading
pub mod Sum
