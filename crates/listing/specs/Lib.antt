pub mod Common
pub mod PacketLine
pub mod Listing
pub mod Progress
