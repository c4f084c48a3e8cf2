pub mod TimeLaws
pub mod TurnLaws
pub mod QuietLaws
pub mod TickLaws
