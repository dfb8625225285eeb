pub mod Common
pub mod Invocation
pub mod Proven
pub mod Run
pub mod Words
