-- What the contract of `telling` cites.
pub mod Texts
