pub mod Rotation
pub mod Bytes
pub mod Message
