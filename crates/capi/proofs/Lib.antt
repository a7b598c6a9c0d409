pub mod LanguageLaws
pub mod Ties
