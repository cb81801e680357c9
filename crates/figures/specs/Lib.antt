-- Tables that see every figure and clause of the definitions of `units`, `sequence` and `rules`: cases.
pub mod Bounds
pub mod BoundCases
pub mod Pages
