pub mod Kept
pub mod Reading
pub mod KeptLaws
pub mod Worked
