pub mod AskedLaws
pub mod PlacingLaws
