pub mod Crossing
pub mod Language
