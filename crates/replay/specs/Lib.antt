pub mod Replay
pub mod Player
pub mod State
pub mod Lent
pub mod Claims
pub mod Example
