pub mod Lines
pub mod State
pub mod Turn
pub mod Totals
pub mod Answers
pub mod Left
