pub mod Laws
pub mod HeldLaws
pub mod StepLaws
pub mod AreaLaws
pub mod SoundLaws
pub mod CopyLaws
