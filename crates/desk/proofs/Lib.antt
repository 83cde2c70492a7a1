pub mod LineLaws
pub mod DrawLaws
pub mod StepLaws
pub mod EndLaws
pub mod Enough
