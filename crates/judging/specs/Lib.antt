pub mod Judged
pub mod Refusals
