-- What is left of a walk over the changes of a file's relocations, and what its steps take of that.
use Rattle.std.specs.Prelude.{ℕ, ◌≡◌, ◌+◌, ◌*◌, ◌%◌, ◌^◌, ◌<◌, ◌≤◌, ◌==◌, ◌⊎◌, Bool, true, false, List, [], ◌∷◌, ◌++◌, Option, None, Some, Result, Ok, Err}
use Rattle.elf_model.specs.Bytes.{field, little}
use Rattle.elf_model.specs.Image.{ImageChange, ImageSource, Lacks, Refuses, SegmentWrite, Stores as StoresSome, relative_changes, unrelocated}
use Rattle.elf_model.specs.Numbers.{R_X86_64_IRELATIVE}
use Rattle.elf_model.specs.Prelude.{IsBudgetRefusal}
use Rattle.elf_model.specs.Records.{p_vaddr, segment_at}
use Rattle.elf_model.specs.Tables.{RELA_SIZE, RELR_SIZE, SYMBOL_SIZE}
use Rattle.elf_model.specs.declared.causes.Refusal.{Refusal}
use Rattle.elf_record.specs.Rela.{IsRela}
use Rattle.elf_record.specs.declared.rela.Rela.{Rela}
use Rattle.elf_table.specs.Cursors.{unread_bytes}
use Rattle.elf_table.specs.declared.fault.Fault.{Fault}
use Rattle.elf_table.specs.declared.fault.Fault.TheVariants.{Refused, Source}
use Rattle.elf_image.specs.EntryOrder.{AreOrderedEntries, IsHeldRelative, PassesBy, entry_changes_left, entries_reads}
use Rattle.elf_image.specs.RelaRows.{is_in_reach}
use Rattle.elf_image.specs.RelativeRows.{AreRowsOf, relative_left}
use Rattle.elf_image.specs.Relocated.{FindsPlace, IsImageOf, RefusesImage, write_as, write_at}
use Rattle.elf_image.specs.Values.{IsGiven}
use Rattle.elf_image.specs.Within.{WalkAlive, walk_steps}
use Rattle.elf_image.specs.declared.changes.ImageFile.{ImageFile}
use Rattle.elf_image.specs.declared.changes.PlacedBytes.{PlacedBytes}
use Rattle.elf_image.specs.declared.changes.RelocatedBytes.TheVariants as stored
use Rattle.elf_image.specs.declared.place.Place.{Place}
use Rattle.elf_image.specs.declared.rela_rows.WindowReach.{WindowReach}
use Rattle.elf_image.specs.declared.relative_rows.RelativeRow.{RelativeRow}
use Rattle.elf_image.specs.declared.walk.ImageWalk.{ImageWalk}
use Rattle.elf_image.specs.declared.walk.RelativeEntry.{RelativeEntry}
use Rattle.elf_image.specs.declared.walk.WalkStep.{WalkStep}
use Rattle.elf_image.specs.declared.walk.WalkStep.TheVariants as step

-- the relative relocations that are left, unless a walk is past them
abbrev pub relative_changes_left : ImageSource → ImageWalk → List ImageChange
relative_changes_left source walk = elim walk.past_rows [
  | true ↦ []
  | false ↦ relative_changes source walk.rows.low (relative_left source.file walk.rows)
]

-- ALL CHANGES that are left
abbrev pub image_changes_left : ImageSource → ImageWalk → List ImageChange
image_changes_left source walk = relative_changes_left source walk ++ entry_changes_left source walk.entries

-- they are those of a file's relocations, and of the window that is wanted
pub record AreChangesOf (file : List ℕ) (image : ImageFile) (walk : ImageWalk) : Type 0 where
  pub rows : AreRowsOf file walk.rows
  pub entries : AreOrderedEntries file walk.entries
  pub ranges : walk.entries.ranges ≡ image.told.ranges
  pub wanted : walk.entries.wanted ≡ walk.wanted

-- the word before relocations at an offset of a segment
abbrev pub segment_word : ImageSource → (segment offset : ℕ) → ℕ
segment_word source segment offset = field (unrelocated source.whole source.file (segment_at source.file segment)) offset 8

-- what a relative relocation stores
abbrev pub based_write : ImageSource → Place → SegmentWrite
based_write source place =
    write_at place 8 (little 8 ((segment_word source place.segment place.offset + source.items.base) % 2 ^ 64))

-- what is stored at a place: bytes, or the load address and the word that is there before relocations
abbrev pub StoresAs : ImageSource → PlacedBytes → SegmentWrite → Type 0
StoresAs source placed write = elim placed.bytes [
  | stored.Based ↦ write ≡ based_write source placed.place
  | stored.Value patch ↦ write ≡ write_as placed
  | stored.Pair first second ↦ write ≡ write_as placed
  | stored.Copied bytes ↦ write ≡ write_as placed
]

-- an address is not in the window that is wanted
abbrev pub IsUnwanted : Option WindowReach → (address : ℕ) → Type 0
IsUnwanted None address = ⊥
IsUnwanted (Some reach) address = is_in_reach reach address ≡ false

-- a relative relocation that is passed by since a window is wanted may be one that is refused: its place
-- is not checked
abbrev pub PassesRefused : Option WindowReach → List ImageChange → Type 0
PassesRefused None before = ⊥
PassesRefused (Some reach) before = (refusal : Refusal) × (rest : List ImageChange) × (before ≡ Refuses refusal ∷ rest)

-- the result for a relative relocation: the word at its address, or the first check of its place that
-- fails
abbrev pub FindsWord : ImageSource → RelativeRow → Result PlacedBytes Fault → Type 0
FindsWord source row (Ok placed) =
    (placed.bytes ≡ stored.Based) × (placed.width ≡ 8) × FindsPlace source row.at row.address 8 (Ok placed.place)
FindsWord source row (Err fault) = FindsPlace source row.at row.address 8 (Err fault)

-- A STEP takes the first of the changes that are left, or some that may be passed by; after a refusal
-- nothing is said of the others
abbrev pub TakesChange : ImageSource → (partial : Bool) → Option WindowReach → (before after : List ImageChange) → Result WalkStep Fault → Type 0
TakesChange source partial wanted before after (Ok (step.Stores placed)) =
    (write : SegmentWrite) × StoresAs source placed write × (write.size ≡ placed.width) × (before ≡ StoresSome write ∷ after)
TakesChange source partial wanted before after (Ok (step.Lacks ordered cause)) =
    (partial ≡ true) × (before ≡ Lacks (record { at = ordered.at; cause = cause }) ∷ after) × IsRela source.file ordered.at ordered.entry
TakesChange source partial wanted before after (Ok step.Nothing) =
    PassesBy source.file wanted before after ⊎ PassesRefused wanted before
TakesChange source partial wanted before after (Ok step.End) = before ≡ []
TakesChange source partial wanted before after (Err (Refused refusal)) =
    (IsBudgetRefusal refusal → ⊥) → (change : ImageChange) × (rest : List ImageChange) × (before ≡ change ∷ rest) × RefusesImage partial refusal change
TakesChange source partial wanted before after (Err (Source fault at)) = Unit {0}

-- relative relocations come first, and rise
abbrev pub Rises : (old new : ImageWalk) → Type 0
Rises old new = new.past_rows ≡ false → (old.past_rows ≡ false) × (old.rows.low ≤ new.rows.low)

-- the word of one is after those before it; other bytes are stored after all of them
abbrev pub StoresInTurn : List ℕ → (old new : ImageWalk) → PlacedBytes → Type 0
StoresInTurn file old new placed = elim placed.bytes [
  | stored.Based ↦
      (old.past_rows ≡ false)
      × (old.rows.low ≤ p_vaddr file (segment_at file placed.place.segment) + placed.place.offset)
      × (new.rows.low ≡ p_vaddr file (segment_at file placed.place.segment) + placed.place.offset + 8)
      × (placed.width ≡ 8)
  | stored.Value patch ↦ new.past_rows ≡ true
  | stored.Pair first second ↦ new.past_rows ≡ true
  | stored.Copied bytes ↦ new.past_rows ≡ true
]

abbrev pub GoesInTurn : List ℕ → (old new : ImageWalk) → WalkStep → Type 0
GoesInTurn file old new (step.Stores placed) = StoresInTurn file old new placed × Rises old new
GoesInTurn file old new (step.Lacks ordered cause) = Rises old new
GoesInTurn file old new step.Nothing = Rises old new
GoesInTurn file old new step.End = Unit {0}

-- bytes that an entry stores are given
abbrev pub StoresGiven : WalkStep → Type 0
StoresGiven (step.Stores placed) = IsGiven placed.bytes
StoresGiven (step.Lacks ordered cause) = Unit {0}
StoresGiven step.Nothing = Unit {0}
StoresGiven step.End = Unit {0}

-- READS. What may be read for the symbol of an entry: none if it is of R_X86_64_IRELATIVE
abbrev pub entry_reads : Rela → ℕ
entry_reads entry = elim (entry.r_info % 2 ^ 32 == R_X86_64_IRELATIVE) [ true ↦ 0 | false ↦ SYMBOL_SIZE ]

-- what may be read for what is left of a walk, and for all of it
abbrev pub walk_reads : ImageWalk → ℕ
walk_reads walk = unread_bytes walk.rows.cursor + entries_reads walk.entries

abbrev pub image_pass : ImageFile → ℕ
image_pass image =
    RELR_SIZE * image.told.compact.count + (RELA_SIZE + SYMBOL_SIZE + RELA_SIZE) * (image.told.ranges.first.count + image.told.ranges.second.count)

-- AN ENTRY OF R_X86_64_RELATIVE that was read, and its place
pub record IsRelativeEntry (image : ImageFile) (walk : ImageWalk) (found : RelativeEntry) : Type 0 where
  pub past : walk.past_rows ≡ true
  pub held : IsHeldRelative walk.entries found.row
  pub place : (source : ImageSource) (at : ℕ) → IsImageOf source image → FindsPlace source at found.row.entry.r_offset 8 (Ok found.place)

-- it is taken: it stores a word
pub record TakesRelative (image : ImageFile) (old new : ImageWalk) (placed : PlacedBytes) : Type 0 where
  pub reads : walk_reads new ≤ walk_reads old
  pub alive : (size : ℕ) → WalkAlive size image old → WalkAlive size image new
  pub less : walk_steps new < walk_steps old
  pub wanted : new.wanted ≡ old.wanted
  pub takes : (source : ImageSource) → IsImageOf source image → AreChangesOf source.file image old
      → TakesChange source image.leaves old.wanted (image_changes_left source old) (image_changes_left source new) (Ok (step.Stores placed))
  pub turn : (file : List ℕ) → GoesInTurn file old new (step.Stores placed)
  pub known : (file : List ℕ) → AreChangesOf file image old → AreChangesOf file image new
