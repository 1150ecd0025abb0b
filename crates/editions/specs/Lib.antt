pub mod Editions
pub mod Ends
