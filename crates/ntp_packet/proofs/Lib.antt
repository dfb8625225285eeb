pub mod Fields
pub mod PrecisionTicks
pub mod PacketHeader
