pub mod LineLaws
pub mod PutLaws
