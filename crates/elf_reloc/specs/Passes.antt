-- What the passes over the entries compute of the list of changes.
use Rattle.std.specs.Prelude.{ℕ, ◌≡◌, ◌+◌, ◌^◌, ◌<◌, ◌≤◌, ◌&&◌, nat_le, Bool, List, [], ◌∷◌, Result, Ok, Err}
use Rattle.elf_model.specs.Prelude.{Fails, IsBudgetRefusal, Put, SectionChange, StoredBytes, clipped, put}
use Rattle.elf_model.specs.declared.causes.Refusal.{Refusal}
use Rattle.elf_source.specs.Source.{CountedState}
use Rattle.elf_table.specs.Prelude.{IsOpen}
use Rattle.elf_table.specs.declared.fault.Fault.{Fault}
use Rattle.elf_table.specs.declared.fault.Fault.TheVariants.{Refused, Source}
use Rattle.elf_reloc.specs.declared.entry.ApplyTarget.{ApplyTarget}
use Rattle.elf_reloc.specs.declared.passes.Checked.{Checked}

-- the result of a fold over the patches, or the first fault
unfoldable pub folded : {A : Type 0} → (A → StoredBytes → A) → A → List SectionChange → Result A Refusal
folded step value [] = Ok value
folded step value (Put patch ∷ changes) = folded step (step value patch) changes
folded step value (Fails refusal ∷ changes) = Err refusal

-- whether offsets never decrease, and the last one
abbrev pub rising : Bool × ℕ → StoredBytes → Bool × ℕ
rising so_far patch = (so_far.0 && nat_le so_far.1 patch.at, patch.at)

-- a window of n bytes at an offset, with the part of a patch that falls into it
abbrev pub storing : ℕ → ℕ → List ℕ → StoredBytes → List ℕ
storing low n window patch = put (clipped low n patch) window

-- a pass has a value, or the first fault, unless it is `Budget`
abbrev pub Folds : {X A : Type 0} → Result X Fault → A → Result A Refusal → Type 0
Folds (Ok x) value answer = answer ≡ Ok value
Folds (Err (Refused refusal)) value answer = (IsBudgetRefusal refusal → ⊥) → answer ≡ Err refusal
Folds (Err (Source fault at)) value answer = Unit {0}

-- the entries were checked: whether their offsets never decrease, and the last one; or the first
-- fault, unless it is `Budget`
abbrev pub ChecksEntries : Result Checked Fault → Result (Bool × ℕ) Refusal → Type 0
ChecksEntries (Ok found) answer = answer ≡ Ok (found.rises, found.low)
ChecksEntries (Err (Refused refusal)) answer = (IsBudgetRefusal refusal → ⊥) → answer ≡ Err refusal
ChecksEntries (Err (Source fault at)) answer = Unit {0}

-- a window of n bytes at an offset may be patched: it lies inside the section, and the entries may
-- be read
pub record MayPatch (src : CountedState) (target : ApplyTarget) (low n : ℕ) : Type 0 where
  pub opened : IsOpen src target.file.loaded target.file.store.now
  pub within : low + n ≤ target.size
  pub fits : target.size < 2 ^ 64
