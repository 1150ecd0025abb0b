pub mod Determined
pub mod EntryRead
pub mod Said
pub mod Stop
pub mod Meaning
pub mod Within
