pub mod GapCases
pub mod GapsMean
pub mod SheetLaws
pub mod Ties
