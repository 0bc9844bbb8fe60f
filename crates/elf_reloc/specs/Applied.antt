-- The section with its relocations applied.
use Rattle.std.specs.Prelude.{ℕ, ◌≡◌, ◌+◌, ◌-◌, ◌*◌, ◌^◌, ◌/◌, ◌<◌, ◌≤◌, min, Bool, true, false, MatchBool, List, [], length, None, Some, Result, Ok, Err, IfErr}
use Rattle.elf_model.specs.Prelude.{IsBudgetRefusal, Layout, applied, apply_checks, apply_cost_by_order, before_entries, e_shnum, entries_for, first_refusal, header_checks, held_bytes, layout_names_cost, offsets_never_fall, section_at, slice}
use Rattle.elf_model.specs.declared.causes.Refusal.{Refusal}
use Rattle.elf_source.specs.Prelude.{CountedState, IsOutFault, IsSourceFault, KeepsSource, OutGrows, OutState, SinkTakes, SinkTakesPrefix}
use Rattle.elf_table.specs.Prelude.{IsOpen, LoadedFile, StoreState}
use Rattle.elf_table.specs.declared.fault.Fault.{Fault}
use Rattle.elf_table.specs.declared.run_fault.RunFault.TheVariants.{Out}
use Rattle.elf_table.specs.declared.run_fault.RunFault.{RunFault}
use Rattle.elf_table.specs.declared.fault.Fault.TheVariants.{Refused as Refuses, Source as Unread}
use Rattle.elf_reloc.specs.declared.apply_section.Applied.{Applied}
use Rattle.elf_reloc.specs.declared.entry.ApplyTarget.{ApplyTarget}
use Rattle.elf_table.specs.declared.run_fault.RunFault.TheVariants.{Refused, Source}
use Rattle.elf_reloc.specs.InOrder.{OffsetsAscend}
use Rattle.elf_reloc.specs.Walk.{walk_all}
use Rattle.elf_reloc.specs.Windows.{OfPatches, WroteBytes, windows}

-- the location of a section's bytes, or the first check that fails
abbrev pub HeldIs : List ℕ → ℕ → Result (ℕ × ℕ) Fault → Type 0
HeldIs file section (Ok found) = (first_refusal (apply_checks file section) ≡ None) × (slice file found.0 found.1 ≡ held_bytes file (section_at file section))
HeldIs file section (Err (Refuses refusal)) = first_refusal (apply_checks file section) ≡ Some refusal
HeldIs file section (Err (Unread fault at)) = Unit {0}

-- the text of a result: nothing if it is refused
abbrev pub text_of : Result (List ℕ) Refusal → List ℕ
text_of (Ok text) = text
text_of (Err refusal) = []

-- WHAT IS WRITTEN for a result: all its bytes, with their number and that of the entries; nothing
-- if it is refused, or with `Budget`; a prefix of them on a fault
abbrev pub Applies : OutState → OutState → Result Applied RunFault → ℕ → Result (List ℕ) Refusal → Type 0
Applies old new (Ok done) entries answer =
    (text : List ℕ) × (answer ≡ Ok text) × SinkTakes old new text × (done.size ≡ length text) × (done.entries ≡ entries)
Applies old new (Err (Refused refusal)) entries answer = ((IsBudgetRefusal refusal → ⊥) → answer ≡ Err refusal) × (new ≡ old)
Applies old new (Err (Source fault at)) entries answer = SinkTakesPrefix old new (text_of answer)
Applies old new (Err (Out fault)) entries answer = SinkTakesPrefix old new (text_of answer)

-- HOW MANY BYTES ARE WRITTEN, for every source: as many as the result says, or no more than n on a
-- fault
abbrev pub WroteMost : OutState → OutState → Result Applied RunFault → ℕ → Type 0
WroteMost old new (Ok done) most = (done.size ≤ most) × (new.written ≡ min (old.written + done.size) (2 ^ 128 - 1))
WroteMost old new (Err fault) most = new.written ≤ old.written + most

-- the meaning of `Budget`: a limit was set, and n bytes more would have exceeded it
pub record OverBudget (src : CountedState) (n : ℕ) : Type 0 where
  pub most : ℕ
  pub is_set : src.most ≡ Some most
  pub above : most < src.asked + n

-- a fault is `Budget` only if n bytes more would have exceeded the limit
abbrev pub BudgetTooSmall : CountedState → ℕ → RunFault → Type 0
BudgetTooSmall src n (Refused refusal) = IsBudgetRefusal refusal → OverBudget src n
BudgetTooSmall src n (Source fault at) = Unit {0}
BudgetTooSmall src n (Out fault) = Unit {0}

-- what a fault implies for the source and the output, by reads of at most n bytes: the refusal
-- `Budget` is at an offset of the source, and n bytes more would have exceeded the limit; a fault
-- of the source points to the read that stopped, and on a fault of the output the sink has failed
abbrev pub ApplySays : CountedState → CountedState → OutState → ℕ → RunFault → Type 0
ApplySays old new out n (Refused refusal) = IsBudgetRefusal refusal → (refusal.at < old.seen.size) × OverBudget old n
ApplySays old new out n (Source fault at) = IsSourceFault old.seen new.seen fault × (at ≡ new.stopped)
ApplySays old new out n (Out fault) = IsOutFault out fault

-- WHAT IS REQUESTED, for every source: at most n bytes more, and never past a limit that was set;
-- the source is kept
pub record ReadsWithin (old new : CountedState) (n : ℕ) : Type 0 where
  pub keeps : KeepsSource old.seen new.seen
  pub grows : old.asked ≤ new.asked
  pub at_most : new.asked ≤ old.asked + n
  pub within : (most : ℕ) → old.most ≡ Some most → new.asked ≤ most

-- a target is that of a section of the file whose bytes are at an offset, and no check before its
-- entries fails
pub record IsApplyTarget (file : List ℕ) (headers : ℕ) (target : ApplyTarget) (at : ℕ) : Type 0 where
  pub passed : first_refusal (before_entries file headers target.section) ≡ None
  pub bytes : slice file at target.size ≡ held_bytes file (section_at file target.section)

-- what a number of passes over the entries request, and the section
abbrev pub passes_cost : ApplyTarget → ℕ → ℕ
passes_cost target passes = passes * walk_all target + target.size

-- how many bytes may be requested after the section headers, for every source: a number of passes
-- over as many sections of entries as there may be headers, each as large as the file, and the file
abbrev pub after_ceiling : ℕ → ℕ → Layout → ℕ
after_ceiling size headers layout = (1 + (size + 63) / 64) * (headers * (size / 24 * (48 + layout_names_cost layout))) + size

-- how many bytes may be requested, for every source
abbrev pub apply_ceiling : ℕ → ℕ → Layout → ℕ
apply_ceiling size headers layout = 64 + 64 * headers + after_ceiling size headers layout

-- how many passes over the entries write a section of a size: one for each window, and at most one
-- if the offsets of the entries never decrease
abbrev pub write_passes : Bool → ℕ → ℕ
write_passes true size = min 1 (windows size)
write_passes false size = windows size

-- a limit has room for the passes that write a section, or they would exceed it
abbrev pub RoomFor : CountedState → ℕ → Bool → Type 0
RoomFor src n room = MatchBool room ((most : ℕ) → src.most ≡ Some most → src.asked + n ≤ most) (OverBudget src n)

-- a section whose bytes are at an offset may be written within a limit: the target's file is that
-- of the source, and the bytes lie within the source, whose offsets fit
pub record HasSection (src : CountedState) (target : ApplyTarget) (at : ℕ) : Type 0 where
  pub opened : IsOpen src target.file.loaded target.file.store.now
  pub within : at + target.size ≤ src.seen.size
  pub fits : src.seen.size < 2 ^ 64

-- a text was written, or a prefix of it, or nothing with `Budget`
abbrev pub WritesOrWants : {X : Type 0} → OutState → OutState → Result X RunFault → List ℕ → Type 0
WritesOrWants old new (Ok x) text = SinkTakes old new text
WritesOrWants old new (Err (Refused refusal)) text = IsBudgetRefusal refusal × (new ≡ old)
WritesOrWants old new (Err (Source fault at)) text = SinkTakesPrefix old new text
WritesOrWants old new (Err (Out fault)) text = SinkTakesPrefix old new text

-- the effect of a call that writes a section whose entries were checked, unless a limit has no room
-- for the passes
pub record WritesWithin {X : Type 0} (before after : CountedState) (old new : OutState) (result : Result X RunFault) (target : ApplyTarget) (at : ℕ) (rises : Bool) : Type 0 where
  pub says : IfErr result (ApplySays before after new (passes_cost target (write_passes rises target.size)))
  pub reads : ReadsWithin before after (passes_cost target (write_passes rises target.size))
  pub grows : OutGrows old new
  pub wrote : WroteBytes old new result target.size
  pub text : (file : List ℕ) → before.seen.file ≡ Some file → OfPatches target at (λ patches text. (rises ≡ true → OffsetsAscend 0 patches) → WritesOrWants old new result text) file

-- the effect of a call that checks all entries and writes the section, whose bytes are at an
-- offset: two passes if the offsets of the entries never decrease
pub record AppliesTarget (before after : CountedState) (old new : OutState) (result : Result Applied RunFault) (target : ApplyTarget) (at : ℕ) : Type 0 where
  pub says : IfErr result (ApplySays before after new (passes_cost target (1 + windows target.size)))
  pub reads : ReadsWithin before after (passes_cost target (1 + windows target.size))
  pub once : (file : List ℕ) → before.seen.file ≡ Some file → (headers : ℕ) → IsApplyTarget file headers target at → offsets_never_fall file target.section ≡ true
      → (after.asked ≤ before.asked + passes_cost target 2) × IfErr result (BudgetTooSmall before (passes_cost target 2))
  pub grows : OutGrows old new
  pub wrote : WroteMost old new result target.size
  pub text : (file : List ℕ) → before.seen.file ≡ Some file → (headers : ℕ) → IsApplyTarget file headers target at
      → Applies old new result (length (entries_for file target.section)) (applied file headers target.section target.layout.now)

-- a section of a loaded file may be written: the store has all section headers of the source's file
pub record MayApply (src : CountedState) (loaded : LoadedFile) (store : StoreState) : Type 0 where
  pub whole : store.loaded ≡ loaded.header.e_shnum
  pub few : store.loaded ≤ store.slots
  pub opened : IsOpen src loaded store
  pub fits : src.seen.size < 2 ^ 64

-- the effect of a call that writes a section of a loaded file, with a number of slots for its
-- headers
pub record AppliesLoaded (before after : CountedState) (old new : OutState) (result : Result Applied RunFault) (slots section : ℕ) (layout : Layout) : Type 0 where
  pub says : IfErr result (ApplySays before after new (after_ceiling before.seen.size slots layout))
  pub reads : ReadsWithin before after (after_ceiling before.seen.size slots layout)
  pub cost : (file : List ℕ) → before.seen.file ≡ Some file → first_refusal (header_checks file) ≡ None
      → 64 + 64 * e_shnum file + after.asked ≤ before.asked + apply_cost_by_order file slots section layout
  pub enough : (file : List ℕ) → before.seen.file ≡ Some file → first_refusal (header_checks file) ≡ None
      → IfErr result (BudgetTooSmall before (apply_cost_by_order file slots section layout - (64 + 64 * e_shnum file)))
  pub grows : OutGrows old new
  pub wrote : WroteMost old new result before.seen.size
  pub text : (file : List ℕ) → before.seen.file ≡ Some file → first_refusal (header_checks file) ≡ None
      → Applies old new result (length (entries_for file section)) (applied file slots section layout)

-- THE EFFECT OF A CALL that writes a section of a file, with a number of slots for its headers
pub record AppliesFile (before after : CountedState) (old new : OutState) (result : Result Applied RunFault) (slots section : ℕ) (layout : Layout) : Type 0 where
  pub says : IfErr result (ApplySays before after new (apply_ceiling before.seen.size slots layout))
  pub text : (file : List ℕ) → before.seen.file ≡ Some file → Applies old new result (length (entries_for file section)) (applied file slots section layout)
  pub enough : (file : List ℕ) → before.seen.file ≡ Some file → IfErr result (BudgetTooSmall before (apply_cost_by_order file slots section layout))
  pub cost : (file : List ℕ) → before.seen.file ≡ Some file → after.asked ≤ before.asked + apply_cost_by_order file slots section layout
  pub reads : ReadsWithin before after (apply_ceiling before.seen.size slots layout)
  pub grows : OutGrows old new
  pub wrote : WroteMost old new result before.seen.size
