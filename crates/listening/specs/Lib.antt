-- What listening to a receiver is: the list of all offers, the receive program's rule of reply, and what the functions promise.
pub mod Listener
pub mod Verdict
pub mod Listen
-- the receiver by the rules since a fresh start
pub mod Rules
