pub mod Decoding
pub mod ReadBack
pub mod Meanings
pub mod Runs
pub mod Simulation
pub mod Demands
