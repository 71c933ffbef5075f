pub mod Shared
pub mod Forms
pub mod Law
pub mod Back
pub mod Utf8
pub mod Whole
pub mod Expanding
pub mod Single
