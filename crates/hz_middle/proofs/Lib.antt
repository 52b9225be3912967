pub mod PlaceLaws
pub mod SkipLaws
