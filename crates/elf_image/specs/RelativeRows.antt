-- The relative relocations that are left of a walk over their table.
use Rattle.std.specs.Prelude.{ℕ, zero, suc, ◌≡◌, ◌+◌, ◌*◌, ◌/◌, ◌%◌, ◌<◌, ◌==◌, ◌||◌, nat_lt, if◌then◌else◌, true, false, List, [], ◌∷◌, ◌++◌, Option, None, Some, Result, Ok, Err, option_map, unwrap_or}
use Rattle.elf_model.specs.Image.{RelativeAddress, word_addresses}
use Rattle.elf_model.specs.Prelude.{IsBudgetRefusal}
use Rattle.elf_model.specs.Records.{relr_word}
use Rattle.elf_model.specs.RelativeRelocations.{LAST_ADDRESS, bitmap_base}
use Rattle.elf_model.specs.declared.causes.Cause.TheVariants.{Relr}
use Rattle.elf_table.specs.Cursors.{HoldsRows}
use Rattle.elf_table.specs.declared.fault.Fault.{Fault}
use Rattle.elf_table.specs.declared.fault.Fault.TheVariants.{Refused, Source}
use Rattle.elf_image.specs.declared.relative_rows.RelativeRows.{RelativeRows}
use Rattle.elf_image.specs.declared.relative_rows.RelativeStep.{RelativeStep}
use Rattle.elf_image.specs.declared.relative_rows.RelativeStep.TheVariants as step

-- those of the bits that are left of a bitmap, the first of which is of an address
unfoldable pub bits_left : (word_at address bits count : ℕ) → List RelativeAddress
bits_left word_at address bits zero = []
bits_left word_at address bits (suc count) =
    (if bits % 2 == 1 then record { word_at = word_at; address = Some address } ∷ [] else [])
    ++ bits_left word_at (address + 8) (bits / 2) count

-- those of the words of a table from an index on, as many as a count
unfoldable pub words_left : List ℕ → (at index count : ℕ) → List RelativeAddress
words_left file at index zero = []
words_left file at index (suc count) =
    word_addresses (at + 8 * index) (bitmap_base file at index) (relr_word file (at + 8 * index)) ++ words_left file at (suc index) count

-- those of the word that was read last
abbrev pub word_left : RelativeRows → List RelativeAddress
word_left rows = bits_left rows.at (unwrap_or rows.next 0) rows.bits rows.left

-- all that are left
abbrev pub relative_left : List ℕ → RelativeRows → List RelativeAddress
relative_left file rows = word_left rows ++ words_left file rows.cursor.table.at rows.cursor.index rows.cursor.left

-- the rows are those of a file: the cursor holds its bytes, and the address after the bits that are
-- left is that of the words so far
pub record AreRowsOf (file : List ℕ) (rows : RelativeRows) : Type 0 where
  pub unfailed : rows.cursor.failed ≡ None
  pub holds : HoldsRows file rows.cursor
  pub based : 0 < rows.left → (address : ℕ) × (rows.next ≡ Some address)
  pub base : option_map (λ address. address + 8 * rows.left) rows.next ≡ bitmap_base file rows.cursor.table.at rows.cursor.index

-- an address is refused: there is none, its word ends past 2^64, or it is below the lowest that may be
abbrev pub IsRefusedAddress : (low : ℕ) → Option ℕ → Type 0
IsRefusedAddress low None = Unit {0}
IsRefusedAddress low (Some address) = (nat_lt LAST_ADDRESS address || nat_lt address low) ≡ true

-- what a step takes of the addresses that were left: the next one, which is not below the lowest that
-- may be, none, or the refusal of the next one
abbrev pub TakesAddress : (low next_low : ℕ) → (before after : List RelativeAddress) → Result RelativeStep Fault → Type 0
TakesAddress low next_low before after (Ok (step.Row row)) =
    (before ≡ record { word_at = row.at; address = Some row.address } ∷ after)
    × ((nat_lt LAST_ADDRESS row.address || nat_lt row.address low) ≡ false) × (next_low ≡ row.address + 8)
TakesAddress low next_low before after (Ok step.Nothing) = (before ≡ after) × (next_low ≡ low)
TakesAddress low next_low before after (Ok step.Ended) = (before ≡ []) × (after ≡ []) × (next_low ≡ low)
TakesAddress low next_low before after (Err (Refused refusal)) =
    (IsBudgetRefusal refusal → ⊥)
    → (address : Option ℕ) × (rest : List RelativeAddress)
    × (before ≡ record { word_at = refusal.at; address = address } ∷ rest) × (refusal.cause ≡ Relr) × IsRefusedAddress low address
TakesAddress low next_low before after (Err (Source fault at)) = Unit {0}
