pub mod EhdrLaws
pub mod FieldReads
pub mod PartLaws
pub mod RecordLaws
pub mod SignedLaws
mod ViewLaws
