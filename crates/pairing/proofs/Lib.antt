mod Common
pub mod JoinSteps
pub mod JoinInPlace
pub mod GatheringSteps
pub mod Exactness
pub mod ReadingSteps
pub mod Limits
pub mod Completion
pub mod Tallies
pub mod Order
pub mod Pairs
pub mod Servers
pub mod Windows
pub mod Words
pub mod LookUps
pub mod Parts
pub mod SourceSteps
