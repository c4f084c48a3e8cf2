pub mod StepLaws
pub mod EventLaws
pub mod LeadLaws
pub mod CallLaws
