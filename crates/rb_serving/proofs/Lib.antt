pub mod Serving
pub mod ReaderFronts
pub mod MessageFronts
pub mod Procedures
pub mod Costs
