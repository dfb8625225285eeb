pub mod Header
pub mod Packet
