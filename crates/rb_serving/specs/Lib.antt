pub mod Messages
pub mod Serving
pub mod Costs
