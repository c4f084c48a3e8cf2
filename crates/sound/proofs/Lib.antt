pub mod RangeLaws
pub mod HeaderLaws
pub mod LineLaws
pub mod WholeLaws
