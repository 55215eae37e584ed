-- What the slicer and the correlator answer.
pub mod Slicer
pub mod Correlator
pub mod Parts
pub mod Offset
