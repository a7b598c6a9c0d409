mod WordLaws
mod RequestLaws
pub mod WidthLaws
mod Examples
