pub mod CurrentLaws
pub mod StandingLaws
pub mod AnswerLaws
pub mod KCases
pub mod StruckLaws
pub mod ScaledLaws
