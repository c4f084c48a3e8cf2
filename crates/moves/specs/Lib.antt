pub mod Does
pub mod Places
