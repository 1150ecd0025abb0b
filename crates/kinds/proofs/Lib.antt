pub mod Tab
pub mod Past
pub mod Arms
pub mod Ranges
pub mod Determined
