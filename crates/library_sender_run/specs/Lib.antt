-- Lists of exported calls on one memory.
pub mod Chain
