pub mod DispatchLaws
pub mod OwnLaws
pub mod PlantLaws
