-- What 48 tap sums side by side are: each is the single sum of its own window.
pub mod Sums
