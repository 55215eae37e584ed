-- What the exports about lines and payloads promise.
pub mod Exports
