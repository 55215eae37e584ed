-- There and back; every list of calls; a refused call; a wrong symbol's place; instances.
pub mod ThereAndBack
pub mod MemoryRun
pub mod RefusedUntouched
pub mod SymbolPlace
pub mod Instances
