pub mod Ahead
pub mod DynCursors
pub mod NoteCursors
pub mod Steps
pub mod Words
pub mod Reading
pub mod NumberNames
pub mod Prelude
