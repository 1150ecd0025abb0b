pub mod Digits
pub mod Lengths
pub mod Stores
pub mod Refusals
pub mod LineAnswer
pub mod Determined
pub mod Back
