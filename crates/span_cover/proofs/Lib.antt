mod Common
pub mod PieceDistance
pub mod BestSample
pub mod GatheringSteps
pub mod GroupIntervals
pub mod Worth
mod OwnGroup
