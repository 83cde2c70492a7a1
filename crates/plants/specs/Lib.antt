pub mod Changes
pub mod Done
pub mod Follows
pub mod Judged
pub mod Put
