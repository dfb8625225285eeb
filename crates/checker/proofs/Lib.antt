mod Common
pub mod Part
pub mod EntryStatement
pub mod Exchange
pub mod Counting
pub mod Cover
pub mod NoOverflow
pub mod FirstFault
pub mod VerdictPieces
pub mod PieceVerdict
pub mod PieceFit
pub mod Best
pub mod Hull
pub mod Traceability
pub mod Acceptance
pub mod Course
pub mod WorkedExchange
pub mod Comparison
pub mod EntryStep
pub mod Order
pub mod Separation
pub mod Narrow
pub mod Span
pub mod RefutationTests
pub mod RefutationCourse
mod RefutationStamp
