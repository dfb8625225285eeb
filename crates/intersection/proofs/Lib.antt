mod Common
pub mod Fractions
pub mod Intervals
pub mod EndPoints
pub mod Hulls
pub mod Walks
pub mod Soundness
pub mod SortedEnds
