pub mod SetupLaws
