pub mod Options
pub mod Serving
pub mod Asked
pub mod Wanted
pub mod Faults
pub mod Debian
