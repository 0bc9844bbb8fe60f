pub mod AlternativeLaws
pub mod NameSearch
mod JoinedLaws
pub mod SpelledLaws
pub mod LineLaws
pub mod NameLaws
