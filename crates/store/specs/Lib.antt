pub mod Store
pub mod Moves
pub mod ConnMoves
pub mod Areas
