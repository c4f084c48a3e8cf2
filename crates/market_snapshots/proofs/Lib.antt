pub mod SnapshotLaws
pub mod StepLaws
pub mod DueLaws
pub mod HoldLaws
pub mod HeldLaws
