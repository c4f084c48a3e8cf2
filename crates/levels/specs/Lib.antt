pub mod Depth
pub mod Work
pub mod Theorems
