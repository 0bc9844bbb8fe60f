-- The effect of the call that writes a listing.
use Rattle.std.specs.Prelude.{ℕ, ◌≡◌, ◌<◌, ◌+◌, ◌≤◌, false, List, Option, None, Some, Result, Ok, Err, IfSome}
use Rattle.elf_model.specs.Prelude.{IsBudgetRefusal, IsBudgeted, first_refusal, has_tables, known_parts, length_checks, refusal_line_in, style_ceiling}
use Rattle.elf_model.specs.declared.fault_rows.FaultRow.{FaultRow}
use Rattle.elf_model.specs.declared.fault_rows.FaultRow.TheVariants.{NoRow}
use Rattle.elf_model.specs.declared.formats.Format.{Format}
use Rattle.elf_model.specs.declared.causes.Refusal.{Refusal}
use Rattle.elf_source.specs.Prelude.{CountedState, IsOutFault, IsSourceFault, KeepsSource, OutState, SinkTakes, SinkTakesPrefix}
use Rattle.elf_options.specs.Prelude.{style_of}
use Rattle.elf_options.specs.declared.caps.Caps.{Caps}
use Rattle.elf_table.specs.declared.run_fault.RunFault.TheVariants.{Out}
use Rattle.elf_table.specs.declared.run_fault.RunFault.{RunFault}
use Rattle.elf_table.specs.declared.run_fault.RunFault.TheVariants.{Refused, Source}

-- a text with this fault was written: all of it if the result is that fault, or that there is none;
-- otherwise a prefix of it
abbrev pub WroteText : {X : Type 0} → OutState → OutState → Result X RunFault → List ℕ → Option Refusal → Type 0
WroteText old new (Ok x) text fault = SinkTakes old new text × (None ≡ fault)
WroteText old new (Err (Refused refusal)) text fault = SinkTakes old new text × (Some refusal ≡ fault)
WroteText old new (Err (Source cause at)) text fault = SinkTakesPrefix old new text
WroteText old new (Err (Out cause)) text fault = SinkTakesPrefix old new text

-- THE TEXT: what these caps and parts list of a file was written, its report or, if it costs more
-- than the budget, a prefix of whole lines and the line of the budget; at a fault of the source or
-- the output a prefix of that
pub record WroteReport {X : Type 0} (file : List ℕ) (caps : Caps) (parts : ℕ) (old new : OutState) (result : Result X RunFault) : Type 0 where
  pub text : List ℕ
  pub fault : Option Refusal
  pub listed : IsBudgeted caps.limits.budget file caps.limits.headers (style_of caps.style) parts text fault
  pub wrote : WroteText old new result text fault

-- what a fault implies for the source and the output: the source's names the read that failed
abbrev pub FaultSays : CountedState → CountedState → OutState → RunFault → Type 0
FaultSays old new out (Refused refusal) = Unit {0}
FaultSays old new out (Source fault at) = IsSourceFault old.seen new.seen fault × (at ≡ new.stopped)
FaultSays old new out (Out fault) = IsOutFault out fault

-- WHAT IS REQUESTED, for any source: at most the ceiling, nothing if the length refuses the file,
-- and the file header alone if no table is listed; never more than the budget; and if the result is
-- that the budget is exhausted, fewer than 4,096 bytes of it are left, and the result names the
-- read that did not fit
pub record AsksWithin {X : Type 0} (caps : Caps) (parts : ℕ) (old new : CountedState) (result : Result X RunFault) : Type 0 where
  pub ceiling : new.asked ≤ old.asked + style_ceiling old.seen.size caps.limits.headers (style_of caps.style)
  pub unread : (refusal : Refusal) → first_refusal (length_checks old.seen.size) ≡ Some refusal → new.seen ≡ old.seen × new.asked ≡ old.asked
  pub alone : has_tables (known_parts (style_of caps.style) parts) ≡ false → new.asked ≤ old.asked + 64
  pub budget : IfSome caps.limits.budget (λ bytes. new.asked ≤ old.asked + bytes)
  pub late : (refusal : Refusal) → result ≡ Err (Refused refusal) → IsBudgetRefusal refusal
      → (bytes : ℕ) × (caps.limits.budget ≡ Some bytes) × (old.asked + bytes < new.asked + 4096)
  pub place : (refusal : Refusal) → result ≡ Err (Refused refusal) → IsBudgetRefusal refusal → refusal.at ≡ new.stopped

-- what is kept of the source: its size, its failures so far, its file; and no limit is left
pub record KeepsSourceUnlimited (old new : CountedState) : Type 0 where
  pub keeps : KeepsSource old.seen new.seen
  pub free : new.most ≡ None

-- the line of a refusal that is in a row was written, and this is the result: the refusal, or the
-- output's fault, in which case a prefix of it was written
abbrev pub WroteRefusalIn : FaultRow → Format → OutState → OutState → Refusal → RunFault → Type 0
WroteRefusalIn row format old new refusal (Refused same) = (same ≡ refusal) × SinkTakes old new (refusal_line_in format row refusal)
WroteRefusalIn row format old new refusal (Source fault at) = ⊥
WroteRefusalIn row format old new refusal (Out fault) = IsOutFault new fault × SinkTakesPrefix old new (refusal_line_in format row refusal)

-- what stopped a call was reported, and this is the result: for a refusal its line was written, for
-- any other fault nothing
abbrev pub ReturnsStopIn : FaultRow → Format → OutState → OutState → RunFault → RunFault → Type 0
ReturnsStopIn row format old new (Refused refusal) told = WroteRefusalIn row format old new refusal told
ReturnsStopIn row format old new (Source fault at) told = (new ≡ old) × (told ≡ Source fault at)
ReturnsStopIn row format old new (Out fault) told = (new ≡ old) × (told ≡ Out fault)

-- the same if the row is not known
abbrev pub WroteRefusal : Format → OutState → OutState → Refusal → RunFault → Type 0
WroteRefusal format old new refusal told = WroteRefusalIn NoRow format old new refusal told

abbrev pub ReturnsStop : Format → OutState → OutState → RunFault → RunFault → Type 0
ReturnsStop format old new stop told = ReturnsStopIn NoRow format old new stop told
