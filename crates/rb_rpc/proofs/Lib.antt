pub mod Auths
pub mod Calls
mod Replies
pub mod Refusals
pub mod Markings
pub mod Numbers
pub mod SysBodies
pub mod Feeding
pub mod RecordCuts
pub mod Streams
mod ContentWalks
mod SysWalks
mod AuthWalks
mod WordVerdicts
mod CallsStay
mod CallFeeds
mod WholeHeads
pub mod OnLiterals
