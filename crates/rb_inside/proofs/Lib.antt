pub mod Rooms
pub mod Openings
pub mod GoingOn
