pub mod Text
pub mod Date
pub mod Millisecond
pub mod Moment
pub mod Field
pub mod Reading
