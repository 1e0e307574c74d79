pub mod Found
pub mod Fragments
pub mod Gives
pub mod Expiring
pub mod ReplyHeads
pub mod AskedArgs
pub mod CostBounds
pub mod OnLiterals
