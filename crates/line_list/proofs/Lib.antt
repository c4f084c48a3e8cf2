pub mod EachLaws
pub mod ListedLaws
pub mod FoundLaws
