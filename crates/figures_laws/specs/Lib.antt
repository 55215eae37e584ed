-- Document 02 l): a run of recordings, and what a report's type says.
pub mod Month
pub mod Typed
