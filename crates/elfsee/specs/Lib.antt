pub mod Ends
pub mod Explaining
pub mod Layouts
pub mod LinkTexts
pub mod Links
pub mod Naming
pub mod Needs
