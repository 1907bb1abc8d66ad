pub mod Value
pub mod Layout
pub mod Forms
pub mod Limits
pub mod Eight
pub mod Examples
