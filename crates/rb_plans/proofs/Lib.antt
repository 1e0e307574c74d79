mod Inputs
mod HexTexts
mod Written
mod AddressesInOrder
mod Several
mod ObjectTexts
pub mod Flushes
pub mod Versions
pub mod Pieces
