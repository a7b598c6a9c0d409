pub mod CallLaws
pub mod CalledLaws
pub mod KeepsLaws
pub mod MeansLaws
pub mod RestoreLaws
pub mod RestoreMeans
pub mod BurstLaws
pub mod StretchLaws
