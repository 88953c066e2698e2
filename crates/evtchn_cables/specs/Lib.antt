pub mod TableBytes
pub mod Encoded
pub mod Claims
