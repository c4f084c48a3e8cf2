pub mod Choices
pub mod NumberTexts
pub mod Fits
pub mod CleanChars
pub mod Clean
pub mod ReadBack
pub mod SameContent
