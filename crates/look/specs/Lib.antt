-- Which samples are worth a search: rows of values, and the marks of 48 samples.
pub mod Rows
pub mod Marks
