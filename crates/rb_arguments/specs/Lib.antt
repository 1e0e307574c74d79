pub mod Types
pub mod Forwarded
pub mod Remote
pub mod Arguments
pub mod Numbers
pub mod Grammar
pub mod Worked
