-- What computed tests say.
pub mod Bools
pub mod Lists
pub mod Says
