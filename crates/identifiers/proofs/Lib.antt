pub mod Found
pub mod Names
pub mod Others
pub mod Older
pub mod Own
pub mod Determined
