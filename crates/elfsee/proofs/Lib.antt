pub mod EndLaws
pub mod WrittenLinks
