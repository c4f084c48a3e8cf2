pub mod Ring
pub mod Reading
pub mod Changes
pub mod Search
pub mod Theorems
