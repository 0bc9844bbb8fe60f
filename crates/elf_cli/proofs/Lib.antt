pub mod BuildingLaws
pub mod FaultLaws
pub mod OptionLaws
pub mod PartLaws
pub mod LineLaws
pub mod MarkedText
pub mod OutputLaws
