pub mod Records
pub mod Answers
pub mod Struck
pub mod Scaled
pub mod Cases
