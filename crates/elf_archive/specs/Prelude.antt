-- The words of this crate, for one import elsewhere.
pub use Rattle.elf_archive.specs.FirstFault.{FindsAfterMagic, FindsFault, IsArchiveFault, ReadTells, fault_from}
pub use Rattle.elf_archive.specs.Listed.{BudgetSays, IsAll, ListsMember, ReadsAtMostIn, StopTells, member_at, next_cost, next_items}
pub use Rattle.elf_archive.specs.MemberRows.{extent_in, member_in, walk_at}
pub use Rattle.elf_archive.specs.Members.{IsInBounds, IsMemberWalkInBounds, ReturnsMember, extent_of, extent_of_names, member_of, step_cost}
