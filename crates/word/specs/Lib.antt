pub mod Bits
pub mod Word
pub mod Effect
pub mod Ready
pub mod LowestQueue
pub mod Entry
pub mod Computes
