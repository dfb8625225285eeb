mod Common
pub mod RecordList
pub mod Remaining
pub mod RecordFault
pub mod Prefix
pub mod FileHeader
pub mod Parts
pub mod Ranges
pub mod RecordBytes
pub mod Spelling
pub mod File
pub mod Step
pub mod Intake
pub mod NextRecord
pub mod Beginning
pub mod ShortBytes
pub mod Shown
