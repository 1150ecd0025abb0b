pub mod Ends
pub mod Same
pub mod Determined
