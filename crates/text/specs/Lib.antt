pub mod Listing
pub mod Wrote
pub mod Examples
