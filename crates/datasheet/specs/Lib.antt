pub mod Sheet
pub mod Meaning
pub mod Cases
