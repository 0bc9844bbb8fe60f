-- The effect of the check of an archive with its members.
use Rattle.std.specs.Prelude.{ℕ, ◌≡◌, ◌+◌, ⊤, true, List, length, None, Some}
use Rattle.elf_model.specs.Prelude.{ListingStyle, archive_ceiling, file_magic}
use Rattle.elf_model.specs.FileLists.{undecided}
use Rattle.elf_model.specs.declared.causes.Cause.TheVariants.{Thin}
use Rattle.elf_model.specs.declared.states.FileMagic.{FileMagic}
use Rattle.elf_model.specs.declared.states.FileStatus.{FileStatus}
use Rattle.elf_model.specs.declared.states.FileMagic.TheVariants as sort
use Rattle.elf_model.specs.declared.states.FileStatus.TheVariants as state
use Rattle.elf_options.specs.Prelude.{style_of}
use Rattle.elf_options.specs.declared.caps.Caps.{Caps}
use Rattle.elf_options.specs.declared.caps.Limits.{Limits}
use Rattle.elf_archive.specs.FirstFault.{IsArchiveFault, before_magic, cost_after_magic}
use Rattle.elf_walk.specs.CheckedFile.{FindsElf, elf_cost}
use Rattle.elf_walk.specs.Fronts.{AreLimitsAfter}

-- THE STATE that is found for an archive: that of its fault within the budget, of which its magic
-- string left that of the caps, unless a read failed
abbrev pub FindsArchive : Caps → ℕ → List ℕ → FileStatus → Type 0
FindsArchive left parts file state.Ok = IsArchiveFault (before_magic left.limits.budget) file left.limits.headers (style_of left.style) parts None
FindsArchive left parts file (state.Refused refusal) =
    IsArchiveFault (before_magic left.limits.budget) file left.limits.headers (style_of left.style) parts (Some refusal)
FindsArchive caps parts file state.NoElf = ⊥
FindsArchive caps parts file state.Unread = ⊤
FindsArchive caps parts file state.Memory = ⊥

-- the state of a file of which nothing is listed, by its type
abbrev pub unlisted_state : FileMagic → FileStatus
unlisted_state sort.Undecided = state.Refused undecided
unlisted_state sort.Thin = state.Refused (record { at = 0; cause = Thin })
unlisted_state _ = state.NoElf

-- the state that is found for a file of a type, after the bytes that identify it
abbrev pub FindsBySort : FileMagic → Caps → ℕ → List ℕ → FileStatus → Type 0
FindsBySort sort.Elf caps parts file found = FindsElf caps parts file found
FindsBySort sort.Archive caps parts file found = FindsArchive caps parts file found
FindsBySort kind caps parts file found = found ≡ unlisted_state kind

-- THE STATE that is found for a file if members are checked: that of its type, within what is left
-- of the budget after the magic bytes, unless a read of these failed
pub record FindsSortedState (caps : Caps) (parts : ℕ) (file : List ℕ) (found : FileStatus) : Type 0 where
  pub left : Limits
  pub after : AreLimitsAfter true caps.limits (length file) left
  pub finds : FindsBySort (file_magic true caps.limits.budget file) (record { limits = left; style = caps.style }) parts file found

abbrev pub FindsSorted : Caps → ℕ → List ℕ → FileStatus → Type 0
FindsSorted caps parts file state.Unread = ⊤
FindsSorted caps parts file found = FindsSortedState caps parts file found

-- what such a check may request: the bytes that identify the type, and what that type costs
-- besides; so of an archive no more than its listing
abbrev pub cost_by : FileMagic → List ℕ → ℕ → ListingStyle → ℕ → ℕ
cost_by sort.Elf file headers style parts = elf_cost file headers style parts
cost_by sort.Archive file headers style parts = cost_after_magic file headers style parts
cost_by _ file headers style parts = 0

abbrev pub sorted_cost : Caps → List ℕ → ℕ → ListingStyle → ℕ → ℕ
sorted_cost caps file headers style parts = 8 + cost_by (file_magic true caps.limits.budget file) file headers style parts

-- the same for any source
abbrev pub sorted_ceiling : ℕ → ℕ → ListingStyle → ℕ
sorted_ceiling size headers style = 8 + archive_ceiling size headers style
