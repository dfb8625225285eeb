mod Common
pub mod Endings
pub mod Devices
pub mod Progress
pub mod TwentyFields
pub mod UnderWay
pub mod Refusal
