pub mod Line
pub mod Steps
pub mod Area
pub mod AreaSound
