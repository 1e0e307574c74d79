pub mod Outboxes
pub mod Rests
pub mod Readings
pub mod Looks
pub mod Holders
