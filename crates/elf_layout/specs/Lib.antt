pub mod Kept
pub mod Layouts
pub mod Lent
pub mod Listed
pub mod Spelled
pub mod Texts
pub mod Prelude
