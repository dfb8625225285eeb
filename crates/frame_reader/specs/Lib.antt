pub mod Frame
pub mod Skip
