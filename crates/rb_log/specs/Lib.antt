pub mod LogRates
pub mod Logs
pub mod LoggedChanges
