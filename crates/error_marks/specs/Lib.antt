pub mod Mark
pub mod Range
pub mod Line
pub mod Direction
pub mod Passage
pub mod Compatible
pub mod Conflict
