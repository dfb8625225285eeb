mod Common
pub mod Bound
pub mod Compatibility
pub mod FrontMarks
pub mod MarkLine
pub mod Order
pub mod MarkPair
pub mod Passage
pub mod Rate
