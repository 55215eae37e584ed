-- The rules of the receiver's control: what a search, a sample and a reply do to it, what makes it fit, and what each function promises of any control.
pub mod TakenBurst
pub mod Search
pub mod Turn
pub mod Fit
pub mod Parts
pub mod Promises
