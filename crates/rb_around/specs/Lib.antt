pub mod FirstFaults
pub mod Turning
pub mod Records
