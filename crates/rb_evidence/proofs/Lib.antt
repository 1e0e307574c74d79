pub mod Cuts
pub mod TableLaws
pub mod OnLiterals
pub mod WalkLaws
