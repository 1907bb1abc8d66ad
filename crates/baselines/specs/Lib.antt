pub mod Laid
pub mod Deriving
pub mod Noting
pub mod Sweeping
pub mod Carried
pub mod Steps
