-- What the definitions come to: statements only. Their proofs stand in proofs/.
pub mod Plain
pub mod Breach
pub mod Belongs
pub mod Sound
pub mod Answered
pub mod GoodSoFar
pub mod Counts
pub mod Whose
pub mod Groups
pub mod Entries
pub mod Found
pub mod Totals
pub mod ThereAndBack
pub mod Demands
pub mod Files
