-- The exports over lists of calls: the machine, the answers as the rules' answers, and the offers that a caller reads.
pub mod Runs
