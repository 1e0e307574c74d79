pub mod Table
pub mod Laws
pub mod Walks
pub mod Worked
