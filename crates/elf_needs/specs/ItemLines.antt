-- The effect of writing the lines of items, found in files that are kept open, within one budget.
use Rattle.std.specs.Prelude.{ℕ, ◌≡◌, ◌⊎◌, Bool, true, false, List, ◌++◌, Option, None, Some, Result, Ok, Err}
use Rattle.elf_model.specs.Prelude.{IsBudgetRefusal, refusal_line}
use Rattle.elf_model.specs.declared.formats.Format.{Format}
use Rattle.elf_model.specs.declared.causes.Refusal.{Refusal}
use Rattle.elf_source.specs.Output.{IsOutFault, SinkTakes, SinkTakesPrefix, OutState}
use Rattle.elf_table.specs.declared.fault.Fault.{Fault}
use Rattle.elf_table.specs.declared.fault.Fault.TheVariants.{Refused, Source}
use Rattle.elf_needs.specs.declared.search_scope.WriteEnd.{WriteEnd}
use Rattle.elf_needs.specs.declared.search_scope.WriteEnd.TheVariants.{Cut, Ended, Whole}
use Rattle.elf_library.specs.declared.needs_fault.NeedsFault.{NeedsFault}
use Rattle.elf_library.specs.declared.needs_fault.NeedsFault.TheVariants.{Open, Out, Read}

-- HOW ITEMS ARE WRITTEN: in which format, the lines of some, and whether these report a problem
pub record ItemLines (A : Type 0) : Type 0 where
  pub format : Format
  pub text : List A → List ℕ
  pub fails : List A → Bool

-- a text is a prefix of the lines, each whole, and then that of a refusal for lack of budget, which
-- is short there
pub record IsCutText {A : Type 0} (lines : ItemLines A) (all : List A) (short : Refusal → Type 0) (text : List ℕ) : Type 0 where
  pub front : List A
  pub rest : List A
  pub split : all ≡ front ++ rest
  pub refusal : Refusal
  pub for_budget : IsBudgetRefusal refusal
  pub is_short : short refusal
  pub text_is : text ≡ lines.text front ++ refusal_line lines.format refusal

-- only the first lines were written
pub record WritesFront {A : Type 0} (lines : ItemLines A) (all : List A) (old new : OutState) : Type 0 where
  pub front : List A
  pub rest : List A
  pub split : all ≡ front ++ rest
  pub takes : SinkTakes old new (lines.text front)

-- THE EFFECT OF WRITING THE LINES: all of them are written; or, only if the budget is short, a
-- prefix of them and the line that reports it; or a read failed after a prefix; or the output
-- failed in one of these texts. No file is opened for it
abbrev pub WritesLines : {A : Type 0} → ItemLines A → List A → (short : Refusal → Type 0) → OutState → OutState → Result WriteEnd NeedsFault → Type 0
WritesLines lines all short old new (Ok (Whole fails)) = SinkTakes old new (lines.text all) × (fails ≡ lines.fails all)
WritesLines lines all short old new (Ok Ended) = SinkTakes old new (lines.text all) × (lines.fails all ≡ true)
WritesLines lines all short old new (Ok Cut) = (text : List ℕ) × IsCutText lines all short text × SinkTakes old new text
WritesLines lines all short old new (Err Read) = WritesFront lines all old new
WritesLines lines all short old new (Err Open) = ⊥
WritesLines lines all short old new (Err (Out fault)) =
    (text : List ℕ) × ((text ≡ lines.text all) ⊎ (IsCutText lines all short text)) × SinkTakesPrefix old new text × IsOutFault new fault

-- the first of the items are written, and the others are left
pub record WritesSoFar {A : Type 0} (lines : ItemLines A) (all left : List A) (old new : OutState) (fails : Bool) : Type 0 where
  pub front : List A
  pub split : all ≡ front ++ left
  pub takes : SinkTakes old new (lines.text front)
  pub fails_is : fails ≡ lines.fails front

-- the effect of writing the line of a fault: that of a refusal, which ends the lines of an object,
-- or all of them for lack of budget
abbrev pub ReturnsFault : Format → Fault → OutState → OutState → Result WriteEnd NeedsFault → Type 0
ReturnsFault format (Refused refusal) old new (Ok (Whole fails)) = ⊥
ReturnsFault format (Refused refusal) old new (Ok Ended) = (IsBudgetRefusal refusal → ⊥) × SinkTakes old new (refusal_line format refusal)
ReturnsFault format (Refused refusal) old new (Ok Cut) = IsBudgetRefusal refusal × SinkTakes old new (refusal_line format refusal)
ReturnsFault format (Refused refusal) old new (Err Read) = ⊥
ReturnsFault format (Refused refusal) old new (Err Open) = ⊥
ReturnsFault format (Refused refusal) old new (Err (Out fault)) = SinkTakesPrefix old new (refusal_line format refusal) × IsOutFault new fault
ReturnsFault format (Source fault at) old new result = (result ≡ Err Read) × (new ≡ old)

-- whether lines report that something is missing, if all are written
abbrev pub failing_of : WriteEnd → Option Bool
failing_of (Whole fails) = Some fails
failing_of Ended = Some true
failing_of Cut = None

-- the exit status after lines: 1 if they report that a symbol is missing, or its state cannot be
-- determined, or if they are cut; otherwise as before
abbrev pub status_after : WriteEnd → ℕ → ℕ
status_after (Whole false) status = status
status_after (Whole true) status = 1
status_after Ended status = 1
status_after Cut status = 1
