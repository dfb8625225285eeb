mod Common
pub mod TrueTime
pub mod Before
pub mod PutIntoPlace
