pub mod Sums
pub mod Next
pub mod LookingBack
