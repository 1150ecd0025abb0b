-- The run over the lines of a file, and what every answer tells.
pub mod WholeLaws
pub mod RunLaws
pub mod Answered
pub mod Counts
pub mod Entries
pub mod GoodSoFar
pub mod Line1
pub mod Files
