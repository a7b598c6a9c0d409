pub mod RefusalLaws
pub mod JudgeLaws
pub mod TakeLaws
