-- The test of each rule says what document 01's table says.
pub mod CleanLaws
pub mod DigitLaws
pub mod FieldLaws
pub mod ConditionLaws
pub mod TreeLaws
pub mod KeysSay
pub mod TestsSay
