pub mod LayoutLaws
pub mod PieceLaws
pub mod AnswerLaws
pub mod BytesLaws
pub mod TaskLaws
pub mod LookupLaws
