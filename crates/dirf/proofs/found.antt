-- The search: how it goes, what it reads out of a file's own table, in what order beneficiaries stand, and what it finds.
pub mod Steps
pub mod Numbers
pub mod Keyed
pub mod Order
pub mod Counted
pub mod Found
pub mod Accepted
