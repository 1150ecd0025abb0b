-- Lists of rules: what they find, alone and put together.
pub mod RulesPut
pub mod Asked
pub mod Given
pub mod RuleLaws
pub mod Columns
