-- Totals: what one amount is worth, where the amounts of a record stand, what a line adds, and how much all of them come to.
pub mod Values
pub mod Row
pub mod Line
pub mod Totals
