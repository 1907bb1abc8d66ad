pub mod Refused
pub mod Fourteen
