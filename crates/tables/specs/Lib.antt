pub mod Tests
pub mod Sources
