-- What a symbol, and a frame of symbols, is judged to be. Assumes nothing.
-- by the tests of the code
pub mod Judged
-- by the numbers of the table
pub mod SymbolFaults
pub mod FirstOf
pub mod WrongBurst
-- that the promise leaves one answer
pub mod OnlyAnswer
-- small frames that meet what the laws ask
pub mod Instances
