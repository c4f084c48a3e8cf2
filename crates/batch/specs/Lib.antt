pub mod Batch
pub mod Told
pub mod Turn
