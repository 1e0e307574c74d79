pub mod Statistics
pub mod Stats
pub mod Counting
pub mod Table
pub mod Lists
pub mod Laws
pub mod Worked
