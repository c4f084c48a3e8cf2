pub mod DigitLaws
pub mod CallLaws
pub mod TurnLaws
pub mod RunLaws
