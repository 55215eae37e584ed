-- The laws of the house format.
pub mod Digits
pub mod Bits
pub mod Lines
pub mod RoundTrip
pub mod Within
pub mod Word
pub mod Samples
pub mod Decimal
pub mod Places
pub mod DecimalText
pub mod OnlyAnswer
pub mod Instances
