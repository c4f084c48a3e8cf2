pub mod Tables
pub mod Counting
pub mod Staying
pub mod Joining
pub mod Keyed
pub mod Soundness
pub mod Removing
