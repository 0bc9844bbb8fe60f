-- What the passes over a file's relocations give, and the bytes of a segment that are written.
use Rattle.std.specs.Prelude.{ℕ, ◌≡◌, ◌+◌, ◌-◌, ◌*◌, ◌/◌, ◌^◌, ◌≤◌, ◌<◌, ◌==◌, ◌&&◌, Bool, List, [], ◌∷◌, length, map, Some, Result, Ok, Err}
use Rattle.std.specs.List.{list_any}
use Rattle.elf_model.specs.Apply.{patched}
use Rattle.elf_model.specs.ApplyLaws.{clipped}
use Rattle.elf_model.specs.Image.{ImageSource, SegmentWrite, and_writes, relocated_segment, relocation_changes, stored_in, unrelocated, writes_in, writes_of}
use Rattle.elf_model.specs.ImageCost.{MARKED_WINDOWS, meets_window}
use Rattle.elf_model.specs.Prelude.{IsBudgetRefusal}
use Rattle.elf_model.specs.Records.{p_filesz, p_memsz, p_offset, p_vaddr, segment_at}
use Rattle.elf_model.specs.declared.causes.Cause.TheVariants.{Budget}
use Rattle.elf_model.specs.declared.causes.Refusal.{Refusal}
use Rattle.elf_source.specs.Prelude.{CountedState, IsOutFault, IsSourceFault, OutState, SinkTakes, SinkTakesPrefix}
use Rattle.elf_table.specs.declared.fault.Fault.{Fault}
use Rattle.elf_table.specs.declared.fault.Fault.TheVariants as fault
use Rattle.elf_table.specs.declared.run_fault.RunFault.{RunFault}
use Rattle.elf_table.specs.declared.run_fault.RunFault.TheVariants.{Out, Refused, Source}
use Rattle.elf_reloc.specs.Applied.{OverBudget}
use Rattle.elf_image.specs.Changes.{image_pass}
use Rattle.elf_image.specs.Marks.{is_window_marked, marked_windows, meets_range}
use Rattle.elf_image.specs.SegmentParts.{MeetsWord}
use Rattle.elf_image.specs.declared.changes.ImageFile.{ImageFile}
use Rattle.elf_image.specs.declared.changes.PlacedBytes.{PlacedBytes}
use Rattle.elf_image.specs.declared.changes.RelocatedBytes.TheVariants.{Based}
use Rattle.elf_image.specs.declared.marks.WindowMarks.{WindowMarks}
use Rattle.elf_image.specs.declared.place.Place.{Place}
use Rattle.elf_image.specs.declared.segment_windows.ImageTarget.{ImageTarget}
use Rattle.elf_image.specs.declared.window.ImageWindow.{ImageWindow}

-- THE CHECK OF ALL RELOCATIONS. Windows of a size are marked if what is stored in a segment meets them
abbrev pub MarksWrites : (window segment : ℕ) → List SegmentWrite → WindowMarks → Type 0
MarksWrites window segment writes marks =
    (k : ℕ) → k < MARKED_WINDOWS → is_window_marked marks.met k ≡ list_any (meets_window window k) (writes_in segment writes)

-- the result for changes after which others are left, by that of these
unfoldable pub after_writes : List SegmentWrite → Result (List SegmentWrite) Refusal → Result (List SegmentWrite) Refusal
after_writes [] result = result
after_writes (write ∷ writes) result = and_writes write (after_writes writes result)

-- bytes that are stored are marked, if they are in a segment
abbrev pub is_marked_by : (target : ImageTarget) (place : Place) (width index : ℕ) → Bool
is_marked_by target place width index = place.segment == target.index && meets_range target.window index place.offset width

-- its result: the marks of all that is stored, or the first refusal, unless a read failed
abbrev pub ChecksAll : ImageSource → (partial : Bool) → (window segment : ℕ) → Result WindowMarks Fault → Type 0
ChecksAll source partial window segment (Ok marks) =
    (writes : List SegmentWrite) × (writes_of partial (relocation_changes source) ≡ Ok writes) × MarksWrites window segment writes marks
ChecksAll source partial window segment (Err (fault.Refused refusal)) =
    (IsBudgetRefusal refusal → ⊥) → writes_of partial (relocation_changes source) ≡ Err refusal
ChecksAll source partial window segment (Err (fault.Source reason at)) = Unit {0}

-- THE SEGMENT of a target is that of a program header
pub record IsTargetOf (source : ImageSource) (target : ImageTarget) : Type 0 where
  pub first : target.first ≡ p_vaddr source.file (segment_at source.file target.index)
  pub place : target.bytes.at ≡ p_offset source.file (segment_at source.file target.index)
  pub held : target.bytes.size ≡ p_filesz source.file (segment_at source.file target.index)
  pub size : target.size ≡ p_memsz source.file (segment_at source.file target.index)
  pub fits : target.bytes.size ≤ target.size
  pub small : target.size < 2 ^ 64
  pub end : target.first + target.size ≤ 2 ^ 64
  pub whole : target.bytes.at + target.bytes.size ≤ length source.whole

-- its bytes before relocations
abbrev pub bytes_before : ImageSource → ImageTarget → List ℕ
bytes_before source target = unrelocated source.whole source.file (segment_at source.file target.index)

-- a word to which the load address is added, if it meets a window of the segment, has its bytes before
-- relocations there
abbrev pub MeetsBefore : ImageSource → ImageTarget → ImageWindow → PlacedBytes → Type 0
MeetsBefore source target window placed =
    placed.bytes ≡ Based → placed.place.segment ≡ target.index
    → window.low < placed.place.offset + 8 → placed.place.offset < window.low + length window.bytes.now
    → MeetsWord (bytes_before source target) window placed.place.offset

-- A WINDOW with the parts of what is stored that fall into it
abbrev pub PatchesWindow : ImageTarget → List SegmentWrite → (old new : ImageWindow) → Type 0
PatchesWindow target writes old new =
    new.bytes.now ≡ patched (map (clipped old.low (length old.bytes.now)) (stored_in target.index writes)) old.bytes.now

-- the segment with what is stored
abbrev pub bytes_after : ImageSource → ImageTarget → List SegmentWrite → List ℕ
bytes_after source target writes = relocated_segment source.whole source.file target.index writes

-- bytes are written: all of them, a prefix of them on a fault, or none since a limit was passed
abbrev pub WritesWithinLimit : {X : Type 0} → OutState → OutState → Result X RunFault → List ℕ → Type 0
WritesWithinLimit old new (Ok x) bytes = SinkTakes old new bytes
WritesWithinLimit old new (Err (Refused refusal)) bytes = IsBudgetRefusal refusal × SinkTakesPrefix old new bytes
WritesWithinLimit old new (Err (Source reason at)) bytes = SinkTakesPrefix old new bytes
WritesWithinLimit old new (Err (Out reason)) bytes = SinkTakesPrefix old new bytes

-- how many windows of a size there are in a segment
abbrev pub window_count : ImageTarget → ℕ
window_count target = (target.size + (target.window - 1)) / target.window

-- how many bytes are requested to write it: those of the segment and of the edges of its windows, and
-- one pass over the relocations for each window that is marked
abbrev pub windows_cost : ImageFile → ImageTarget → WindowMarks → ℕ
windows_cost image target marks =
    marked_windows marks.met (window_count target) * image_pass image + (target.bytes.size + 14 * window_count target)

-- a limit allows these, or they would pass it: the refusal is at the segment's bytes
abbrev pub AllowsBytes : CountedState → (cost : ℕ) → Type 0
AllowsBytes src cost = (most : ℕ) → src.most ≡ Some most → src.asked + cost ≤ most

abbrev pub BudgetDecides : {X : Type 0} → CountedState → (at cost : ℕ) → Result X Fault → Type 0
BudgetDecides src at cost (Ok x) = AllowsBytes src cost
BudgetDecides src at cost (Err (fault.Refused refusal)) = (refusal ≡ record { at = at; cause = Budget }) × OverBudget src cost
BudgetDecides src at cost (Err (fault.Source reason offset)) = ⊥

-- what a fault implies for the source and the output: that of the source points to the read that
-- stopped, and after that of the output the sink has failed
abbrev pub StopsImage : (old new : CountedState) → OutState → RunFault → Type 0
StopsImage old new out (Refused refusal) = Unit {0}
StopsImage old new out (Source reason at) = IsSourceFault old.seen new.seen reason × (at ≡ new.stopped)
StopsImage old new out (Out reason) = IsOutFault out reason
