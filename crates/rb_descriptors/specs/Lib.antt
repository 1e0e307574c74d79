pub mod Handed
pub mod Notify
