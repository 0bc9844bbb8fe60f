pub mod Members
pub mod NameFronts
pub mod MemberRows
pub mod Archives
pub mod Listed
pub mod FirstFault
pub mod Prelude
