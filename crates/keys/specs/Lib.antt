pub mod Sip
pub mod Keys
