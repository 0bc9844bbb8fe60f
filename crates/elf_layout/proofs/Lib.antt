pub mod ItemLaws
pub mod LayoutSteps
pub mod LentSteps
pub mod ListedSteps
pub mod NameSteps
pub mod TextSteps
pub mod Words
