pub mod Concat
pub mod Laws
pub mod Determined
pub mod Editions
