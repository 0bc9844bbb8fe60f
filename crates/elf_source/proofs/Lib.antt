pub mod GrowthLaws
pub mod HidingLaws
pub mod HoldLaws
mod Known
pub mod LimitLaws
pub mod ReadsLaws
mod PageLaws
pub mod PutsLaws
pub mod LineLaws
mod LocatedLaws
pub mod OnwardLaws
mod TurnLaws
pub mod RangeLaws
