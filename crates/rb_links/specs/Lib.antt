pub mod Outgoing
pub mod Shown
pub mod Holding
pub mod Numbers
pub mod Tables
pub mod Stands
pub mod Served
pub mod Rounds
