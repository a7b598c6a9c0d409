pub mod GapLaws
pub mod StepLaws
pub mod Ties
