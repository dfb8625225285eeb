pub mod Common
pub mod Piece
pub mod Best
pub mod Step
pub mod Part
pub mod Group
pub mod Gathering
