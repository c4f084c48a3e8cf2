pub mod AnswerLaws
pub mod AskLaws
pub mod PromoteLaws
