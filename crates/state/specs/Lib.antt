pub mod Written
pub mod Asking
pub mod Touched
pub mod Reach
pub mod Steps
