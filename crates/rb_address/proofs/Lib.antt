pub mod Digits
pub mod HostTexts
pub mod Words
pub mod CallerWords
pub mod HostLaws
pub mod NameLaws
pub mod NetworkBits
pub mod OnLiterals
