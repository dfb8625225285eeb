mod Common
pub mod SampleLines
pub mod Capture
pub mod LeastShowing
pub mod SettlementShowing
pub mod SettlementText
mod CoversShowing
pub mod EnvelopeShowing
pub mod RunSteps
pub mod Status
pub mod PacketParts
pub mod RecordFrames
pub mod Frames
pub mod ExchangeRecords
pub mod ClaimText
pub mod Completeness
pub mod Admission
pub mod Headline
pub mod Excess
pub mod Opposition
pub mod Showing
pub mod VerdictShowing
pub mod SearchShowing
pub mod RefutationShowing
pub mod TimesShowing
pub mod OrderShowing
pub mod FindRefutationShowing
