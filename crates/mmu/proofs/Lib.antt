pub mod StatisticsLaws
pub mod TsbLaws
