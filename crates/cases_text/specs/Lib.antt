-- What the cases read.
pub mod Places
pub mod Numbers
pub mod Behind
pub mod Written
