pub mod Area
pub mod Steps
