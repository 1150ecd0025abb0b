pub mod Opens
pub mod Lent
pub mod Table
pub mod Reading
pub mod Held
pub mod Editions
pub mod Written
pub mod Determined
