pub mod Line
pub mod Text
pub mod Read
pub mod Agree
pub mod Event
