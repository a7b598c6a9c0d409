pub mod MaxLaws
pub mod StepLaws
pub mod RowLaws
pub mod KindRows
pub mod ScanLaws
pub mod RankLaws
