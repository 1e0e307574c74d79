pub mod LastRounds
pub mod GoingOn
