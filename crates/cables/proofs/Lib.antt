pub mod Lowest
pub mod Tables
