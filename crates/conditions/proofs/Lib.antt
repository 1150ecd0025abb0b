pub mod Fields
pub mod Lawyers
pub mod Determined
