-- The tables, and what they come to for an edition.
pub mod Tables
pub mod Base
pub mod Tested
pub mod Editions
pub mod Marked
