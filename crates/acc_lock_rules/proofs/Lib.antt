pub mod Rooms
pub mod OneTurn
pub mod Orderly
pub mod Waiting
pub mod Living
pub mod Closures
pub mod Blockers
pub mod EachTurn
