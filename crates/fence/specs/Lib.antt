pub mod System
pub mod Cables
pub mod Fence
pub mod Domains
pub mod Examples
