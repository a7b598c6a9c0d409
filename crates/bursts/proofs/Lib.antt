pub mod RunLaws
pub mod Ties
