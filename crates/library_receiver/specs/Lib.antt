-- The receiver over lent memory: the machine, and what each export promises.
pub mod Memory
pub mod Promises
