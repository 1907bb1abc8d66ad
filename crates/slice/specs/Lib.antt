pub mod Record
pub mod Rules
pub mod Refusing
pub mod Check
pub mod Examples
