pub mod Filled
pub mod Searches
pub mod Pairs
pub mod NameLaws
