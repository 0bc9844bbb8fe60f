-- The words of causes, by their numbers.
use Rattle.std.specs.Prelude.{ℕ, ◌≡◌, ◌<◌, ◌⊎◌, nat_lt, true, false, List, ◌++◌, length, drop, Option, None, Some}
use Rattle.elf_model.specs.Prelude.{cause_word}
use Rattle.elf_model.specs.declared.causes.Cause.{Cause}
use Rattle.elf_capi.specs.Causes.{cause_number}

-- the cause of a number; none for 0, for the two numbers that no cause has, and for those above all
-- causes
abbrev pub IsNumbered : ℕ → Option Cause → Type 0
IsNumbered number (Some cause) = cause_number cause ≡ number
IsNumbered number None = (number ≡ 0) ⊎ (((29 < number) × (number < 32)) ⊎ (42 < number))

-- a word is written to the start of some memory, if it fits, and otherwise nothing is
abbrev pub PutsFront : List ℕ → List ℕ → List ℕ → ℕ → Type 0
PutsFront word old new written =
    elim (nat_lt (length old) (length word)) [
      | true ↦ (written ≡ 0) × (new ≡ old)
      | false ↦ (written ≡ length word) × (new ≡ word ++ drop (length word) old)
    ]

-- the word of a cause is written there; nothing is if there is no cause
abbrev pub PutsWord : Option Cause → List ℕ → List ℕ → ℕ → Type 0
PutsWord (Some cause) old new written = PutsFront (cause_word cause) old new written
PutsWord None old new written = (written ≡ 0) × (new ≡ old)
