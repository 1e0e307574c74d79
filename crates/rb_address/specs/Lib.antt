pub mod CallerTexts
pub mod Callers
pub mod Hosts
pub mod Netids
pub mod Networks
pub mod Peers
pub mod Reading
pub mod Worked
