-- The words of this crate, for one import elsewhere.
pub use Rattle.elf_walk.specs.Checked.{FailsRead, FindsShort, short_refusal}
pub use Rattle.elf_walk.specs.CheckedFile.{AsksNoMore, FindsState, check_ceiling, check_cost}
pub use Rattle.elf_walk.specs.Entries.{last_entry, list_entries}
unfoldable pub use Rattle.elf_walk.specs.Entries.{rest_from, whole_entries}
pub use Rattle.elf_walk.specs.Found.{FindsWithin, IsFoundWithin, traits_found}
pub use Rattle.elf_walk.specs.Fronts.{front_asked}
pub use Rattle.elf_walk.specs.Gathered.{AreNamesOf, EndsEntry, GathersNames, PutsNames, ReadsJoin, all_bytes, saturated, unnamed_count}
pub use Rattle.elf_walk.specs.Held.{IsEnough, IsSmallDirectory, IsWithinKept, LeavesRoom, bytes_held, repeats}
pub use Rattle.elf_walk.specs.Kept.{HoldsWithin, IsCutFront, IsFront, IsNameable, KeepsFirstNames, KeptNames, is_dot_entry}
pub use Rattle.elf_walk.specs.Members.{FindsSorted, FindsSortedState}
pub use Rattle.elf_walk.specs.Order.{order}
unfoldable pub use Rattle.elf_walk.specs.Order.{insert_by, put_all_by}
pub use Rattle.elf_walk.specs.Pass.{IsPass}
pub use Rattle.elf_walk.specs.Passes.{AreAfter, Ascends, in_order, names_following}
unfoldable pub use Rattle.elf_walk.specs.Passes.{passes}
pub use Rattle.elf_walk.specs.ToldListings.{EndsListing, ListsFile, ReturnsListing, ToldOf}
