-- A cursor that had not failed reads the next note, and keeps the effect of that call.
use Rattle.std.proofs.Common.{◌≡◌, ℕ, Option, None, Some, Result, IfErr, refl}
use Rattle.elf_table.proofs.Absent.{none-of}
use Rattle.elf_source.specs.Prelude.{CountedState, ReadsOnward, ReadsUpTo, SourceState}
use Rattle.elf_table.specs.Prelude.{IsReadFault, MovesOn, frontier}
use Rattle.elf_table.specs.declared.fault.Fault.{Fault}
use Rattle.elf_note.specs.Prelude.{KeepsNotes, NoteCursorState, StepReads}
use Rattle.elf_note.proofs.note_cursor.NoteCursor.advance.Goals as goal

no-some : {o : Option Fault} (fault : Fault) → o ≡ None → o ≡ Some fault → ⊥
no-some fault none some = cc

asked : {X : Type 0} {a b : CountedState} {n : ℕ} {result : Result X Fault} {failed : Option Fault} → failed ≡ None → ReadsUpTo a b n → IfErr result (IsReadFault a b n)
    → StepReads a b n failed result
asked none reads says = record { reads = reads; says = λ going. says; again = λ fault some. absurd (no-some fault none some) }

kept : {one_read : SourceState → ℕ → ℕ → SourceState → Type 0} {a b : CountedState} {old new : NoteCursorState} → old.failed ≡ None → new.table ≡ old.table → new.align ≡ old.align
    → MovesOn old.ahead new.ahead a.asked b.asked → ReadsOnward one_read a.source b.source (frontier old.ahead) (frontier new.ahead) → KeepsNotes one_read a b old new
kept none table align moves onward =
    record { same_table = table; same_align = align; moves = moves; onward = onward; unchanged = λ fault some. absurd (no-some fault none some) }

pub returns-in-Ok-Some : goal.returns-in-Ok-Some
returns-in-Ok-Some g c =
    let none = none-of c.self.inside.failed c.in_default.not-Some in
    let e = rw c.in-Ok-Some.field-0-is at c.in-Ok-Some.ensures in
    let w = e.went in
    rw (← c.self.view_is)
    (record {
      asks = asked none w.reads tt;
      keeps = kept none refl refl w.moves w.onward;
      steps = record { leaves = (none, none, e.passes.0); passes = e.sized; agrees = w.agrees; tells = e.tells };
    })

pub returns-in-Ok-None : goal.returns-in-Ok-None
returns-in-Ok-None g c =
    let none = none-of c.self.inside.failed c.in_default.not-Some in
    let e = rw c.in-Ok-None.field-0-is at c.in-Ok-None.ensures in
    let w = e.went in
    rw (← c.self.view_is)
    (record {
      asks = asked none w.reads tt;
      keeps = kept none refl refl w.moves w.onward;
      steps = record { leaves = (none, none, e.passes); passes = tt; agrees = w.agrees; tells = e.tells };
    })

pub returns-in-Err : goal.returns-in-Err
returns-in-Err g c =
    let none = none-of c.self.inside.failed c.in_default.not-Some in
    let e = c.in-Err.ensures in
    let w = e.went in
    rw (← c.self.view_is)
    (record {
      asks = asked none w.reads w.says;
      keeps = kept none refl refl w.moves w.onward;
      steps = record { leaves = (refl, λ going. e.stops); passes = tt; agrees = w.agrees; tells = λ file h a going. e.tells file h a };
    })
