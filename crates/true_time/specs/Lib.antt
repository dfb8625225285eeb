pub mod Common
pub mod TrueTime
pub mod FoundHulls
pub mod ReadingLine
pub mod TrueText
pub mod When
pub mod Order
pub mod OrderLine
