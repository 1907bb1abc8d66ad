pub mod Header
pub mod Rules
pub mod Arriving
pub mod Steps
pub mod Deliveries
pub mod Examples
