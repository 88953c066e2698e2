pub mod Decoded
pub mod Run
pub mod Demands
