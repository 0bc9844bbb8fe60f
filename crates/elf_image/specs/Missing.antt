-- An iterator over the entries that lack an item: what is left of it, and what it may read.
use Rattle.std.specs.Prelude.{ℕ, ◌≡◌, ◌<◌, true, List, [], ◌++◌, Option, None, Some, Result, Ok, Err}
use Rattle.elf_model.specs.Checks.{Check}
use Rattle.elf_model.specs.Image.{ImageSource, image_changes}
use Rattle.elf_model.specs.ImageChecks.{kind_checks, segments_load_checks}
use Rattle.elf_model.specs.ImageItems.{ItemValues}
use Rattle.elf_model.specs.ImageMissing.{and_lacks, lacks_of}
use Rattle.elf_model.specs.Overlaps.{overlap_checks}
use Rattle.elf_model.specs.Prelude.{IsBudgetRefusal}
use Rattle.elf_model.specs.Records.{r_offset, r_sym, r_type}
use Rattle.elf_model.specs.declared.causes.Refusal.{Refusal}
use Rattle.elf_table.specs.declared.fault.Fault.{Fault}
use Rattle.elf_table.specs.declared.fault.Fault.TheVariants.{Refused, Source}
use Rattle.elf_image.specs.Changes.{AreChangesOf, image_changes_left}
use Rattle.elf_image.specs.Items.{given, said_by}
use Rattle.elf_image.specs.Relocated.{IsImageOf, entries_header, relocation_checks}
use Rattle.elf_image.specs.Within.{ImageWithin, WalkAlive, walk_steps}
use Rattle.elf_image.specs.declared.image_items.ImageItems.{ImageItems}
use Rattle.elf_image.specs.declared.missing.LackingEntry.{LackingEntry}
use Rattle.elf_image.specs.declared.missing.MissingEntries.{MissingEntries}

-- the entries that are left can be read
pub record IsAliveIn (size : ℕ) (missing : MissingEntries) : Type 0 where
  pub image : ImageWithin size missing.image
  pub walk : WalkAlive size missing.image missing.walk

-- how many steps it may take
abbrev pub missing_steps : MissingEntries → ℕ
missing_steps missing = walk_steps missing.walk

-- an entry of those that were left, or none after the last
abbrev pub StepsMissing : (old new : MissingEntries) → Option LackingEntry → Type 0
StepsMissing old new None = Unit {0}
StepsMissing old new (Some entry) = missing_steps new < missing_steps old

-- they are all of a file that lack an item, if the items are not all
pub record IsMissingOf (source : ImageSource) (missing : MissingEntries) : Type 0 where
  pub image : IsImageOf source missing.image
  pub leaves : missing.image.leaves ≡ true
  pub changes : AreChangesOf source.file missing.image missing.walk
  pub whole : missing.walk.wanted ≡ None

-- WHAT IS LEFT: the entries that lack an item, or the first refusal
abbrev pub lacks_left : ImageSource → MissingEntries → Result (List Refusal) Refusal
lacks_left source missing = lacks_of (image_changes_left source missing.walk)

-- the fields of an entry are those of a file
pub record IsLackingEntry (file : List ℕ) (entry : LackingEntry) : Type 0 where
  pub place : entry.place ≡ r_offset file entry.at
  pub kind : entry.kind ≡ r_type file entry.at
  pub symbol : entry.symbol ≡ r_sym file entry.at

-- THE NEXT ENTRY is the first of those that were left; there are none; or the first refusal is returned
abbrev pub FindsLack : ImageSource → (old new : MissingEntries) → Result (Option LackingEntry) Fault → Type 0
FindsLack source old new (Ok (Some entry)) =
    (lacks_left source old ≡ and_lacks (record { at = entry.at; cause = entry.cause }) (lacks_left source new)) × IsLackingEntry source.file entry
FindsLack source old new (Ok None) = lacks_left source old ≡ Ok []
FindsLack source old new (Err (Refused refusal)) = (IsBudgetRefusal refusal → ⊥) → lacks_left source old ≡ Err refusal
FindsLack source old new (Err (Source fault at)) = Unit {0}

-- THE START: the checks of a loaded file before the first entry, and what items say of which some may
-- be missing
abbrev pub opening_checks : List ℕ → List Check
opening_checks file = overlap_checks file ++ kind_checks file ++ segments_load_checks file ++ relocation_checks file

abbrev pub some_items : ImageItems → ItemValues
some_items items = said_by (given items.numbers.now items.copies.now) true

-- the file with its bytes before section headers are masked, and the items
abbrev pub missing_source : (whole file : List ℕ) → ItemValues → ImageSource
missing_source whole file items = record { whole = whole; file = file; at = entries_header file; items = items }

-- all entries that lack an item are left
abbrev pub BeginsMissing : List ℕ → ItemValues → MissingEntries → Type 0
BeginsMissing file items missing =
    (whole : List ℕ)
    → IsMissingOf (missing_source whole file items) missing
    × (lacks_left (missing_source whole file items) missing ≡ lacks_of (image_changes whole file items))
