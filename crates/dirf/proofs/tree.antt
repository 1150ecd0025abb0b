-- The tree: what is open, whose a record is, and what stood before it.
pub mod Levels
pub mod Belongs
pub mod Parents
pub mod History
pub mod OpenRecords
pub mod Opened
pub mod Held
pub mod LastOfKind
pub mod Whose
pub mod Groups
pub mod Slips
