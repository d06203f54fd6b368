pub mod FirstFound
pub mod SlowHolders
pub mod SlowMoves
