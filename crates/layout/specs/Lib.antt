pub mod Tables
pub mod Codes
pub mod LaidOut
