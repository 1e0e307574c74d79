pub mod Outboxes
pub mod Links
