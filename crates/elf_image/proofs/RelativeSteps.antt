-- The relative relocations that are left, word by word and bit by bit.
use Rattle.std.proofs.Common.{◌≡◌, ◌∙◌, ℕ, zero, suc, ◌+◌, ◌*◌, ◌/◌, ◌%◌, ◌^◌, ◌<◌, ◌≤◌, ◌||◌, nat_lt, Bool, true, false, List, [], ◌∷◌, ◌++◌, Option, None, Some, Result, Ok, Err, option_map, unwrap_or, is_none, is_some, not, flat_map, ap, sym, refl, subst, arith}
use Rattle.std.specs.Prelude.{IfOk}
use Rattle.std.proofs.Math.Nat.{div-div-eq-div-mul, pow-suc}
use Rattle.std.proofs.lemmas.Bool.Decides.{nat_tests}
use Rattle.elf_model.specs.Apply.{places_from}
use Rattle.elf_model.specs.Image.{RelativeAddress, bit_address, word_addresses}
use Rattle.elf_model.specs.Records.{relr_word}
use Rattle.elf_model.specs.RelativeRelocations.{LAST_ADDRESS, base_after, bitmap_base}
use Rattle.elf_model.specs.Bytes.{field, slice}
use Rattle.elf_model.proofs.Slices.{field-slice}
use Rattle.elf_table.specs.Cursors.{CursorState, GivesRow, HoldsRows, next_row, row_at}
use Rattle.elf_table.specs.Faults.{IsAt}
use Rattle.elf_table.specs.declared.fault.Fault.{Fault}
use Rattle.elf_table.specs.declared.fault.Fault.TheVariants.{Refused, Source}
use Rattle.elf_image.specs.RelativeRows.{TakesAddress, bits_left, word_left, words_left}
use Rattle.elf_image.specs.declared.relative_rows.RelativeRows.{RelativeRows}
use Rattle.elf_image.specs.declared.relative_rows.RelativeStep.{RelativeStep}
use Rattle.elf_image.specs.declared.relative_rows.RelativeStep.TheVariants as step

pub in-range : (address low : ℕ) → address ≤ 18446744073709551608 → low ≤ address → (nat_lt LAST_ADDRESS address || nat_lt address low) ≡ false
in-range address low most least = grind (arith, nat_tests)

pub out-of-range : (address low : ℕ) → 18446744073709551608 < address → (nat_lt LAST_ADDRESS address || nat_lt address low) ≡ true
out-of-range address low past = grind (arith, nat_tests)

pub too-low : (address low : ℕ) → address < low → (nat_lt LAST_ADDRESS address || nat_lt address low) ≡ true
too-low address low below = grind (arith, nat_tests)

-- a bit that is set, and one that is not
pub bits-set : (word_at address bits count left : ℕ) → count ≡ suc left → bits % 2 ≡ 1
    → bits_left word_at address bits count ≡ record { word_at = word_at; address = Some address } ∷ bits_left word_at (address + 8) (bits / 2) left
unfolding bits_left
bits-set word_at address bits count left is set = rw (is, bits_left, set) refl

pub bits-unset : (word_at address bits count left : ℕ) → count ≡ suc left → (bits % 2 ≡ 1 → ⊥)
    → bits_left word_at address bits count ≡ bits_left word_at (address + 8) (bits / 2) left
unfolding bits_left
bits-unset word_at address bits count left is unset = let zero_bit : bits % 2 ≡ 0 = omega arith in rw (is, bits_left, zero_bit) refl

pub no-bits : (word_at address bits count : ℕ) → count ≡ 0 → bits_left word_at address bits count ≡ []
unfolding bits_left
no-bits word_at address bits count none = rw (none, bits_left) refl

pub left-as : (rows : RelativeRows) (at address bits left : ℕ) → rows.at ≡ at → rows.next ≡ Some address → rows.bits ≡ bits → rows.left ≡ left
    → bits_left at address bits left ≡ word_left rows
left-as rows at address bits left a b c d = rw (a, b, c, d) refl

-- the bits of a bitmap
bits-from : (at base word j n : ℕ) → flat_map (bit_address at base word) (places_from (λ bit. bit) j n) ≡ bits_left at (base + 8 * j) (word / 2 ^ (j + 1)) n
unfolding bits_left places_from bit_address
bits-from at base word j zero = refl
bits-from at base word j (suc n) =
    let next : base + 8 * suc j ≡ base + 8 * j + 8 = omega arith in
    let half : word / 2 ^ (suc j + 1) ≡ word / 2 ^ (j + 1) / 2 = ap (λ k. word / 2 ^ k) (let e : suc j + 1 ≡ suc (j + 1) = omega arith in e) ∙ (ap (λ k. word / k) (pow-suc 2 (j + 1)) ∙ sym (div-div-eq-div-mul word (2 ^ (j + 1)) 2)) in
    ap (λ xs. bit_address at base word j ++ xs) (bits-from at base word (suc j) n ∙ (ap (λ a. bits_left at a (word / 2 ^ (suc j + 1)) n) next ∙ ap (λ b. bits_left at (base + 8 * j + 8) b n) half))

-- the addresses of a word
pub addresses-even : (at : ℕ) (next : Option ℕ) (word : ℕ) → word % 2 ≡ 0 → word_addresses at next word ≡ record { word_at = at; address = Some word } ∷ []
unfolding word_addresses
addresses-even at next word even = rw even refl

pub addresses-none : (at : ℕ) (next : Option ℕ) (word : ℕ) → (word % 2 ≡ 0 → ⊥) → is_none next ≡ true
    → word_addresses at next word ≡ record { word_at = at; address = None } ∷ []
unfolding word_addresses
addresses-none at None word odd none = let one : word % 2 ≡ 1 = omega arith in rw one refl
addresses-none at (Some a) word odd none = absurd (cc)

pub addresses-bits : (at : ℕ) (next : Option ℕ) (word : ℕ) → (word % 2 ≡ 0 → ⊥) → is_none next ≡ false
    → word_addresses at next word ≡ bits_left at (unwrap_or next 0) (word / 2) 63
unfolding word_addresses
addresses-bits at None word odd some = absurd (cc)
addresses-bits at (Some a) word odd some =
    let one : word % 2 ≡ 1 = omega arith in
    let first : a + 8 * 0 ≡ a = omega arith in
    rw one (bits-from at a word 0 63 ∙ ap (λ b. bits_left at b (word / 2) 63) first)

-- the addresses of more words after those of one
pub takes-more : (low next : ℕ) (before after more : List RelativeAddress) (result : Result RelativeStep Fault)
    → IfOk result (λ it. it ≡ step.Ended → ⊥) → TakesAddress low next before after result → TakesAddress low next (before ++ more) (after ++ more) result
takes-more low next before after more (Ok (step.Row row)) goes takes = (ap (λ xs. xs ++ more) takes.0, takes.1, takes.2)
takes-more low next before after more (Ok step.Nothing) goes takes = (ap (λ xs. xs ++ more) takes.0, takes.1)
takes-more low next before after more (Ok step.Ended) goes takes = absurd (goes refl)
takes-more low next before after more (Err (Refused refusal)) goes takes = λ fits. let t = takes fits in (t.0, t.1 ++ more, ap (λ xs. xs ++ more) t.2, t.3, t.4)
takes-more low next before after more (Err (Source fault at)) goes takes = tt

pub takes-as : (low next : ℕ) (before before' after : List RelativeAddress) (result : Result RelativeStep Fault)
    → before ≡ before' → TakesAddress low next before' after result → TakesAddress low next before after result
takes-as low next before before' after result e h = subst (λ xs. TakesAddress low next xs after result) (sym e) h

-- a fault of a read refuses no address
pub takes-unread : (at low next : ℕ) (before after : List RelativeAddress) (fault : Fault) → IsAt at fault → TakesAddress low next before after (Err fault)
takes-unread at low next before after (Refused refusal) is = λ fits. absurd (fits (ap (λ r. r.cause) is))
takes-unread at low next before after (Source fault offset) is = tt

pub none-if : (next : Option ℕ) (is : Bool) → is_some next ≡ not is → is ≡ true → is_none next ≡ true
none-if None is e h = refl
none-if (Some a) is e h = absurd (cc)

pub some-if : (next : Option ℕ) (is : Bool) → is_some next ≡ not is → is ≡ false → is_none next ≡ false
some-if None is e h = absurd (cc)
some-if (Some a) is e h = refl

pub some-at : (next : Option ℕ) → is_none next ≡ false → (address : ℕ) × (next ≡ Some address)
some-at None h = absurd (cc)
some-at (Some a) h = (a, refl)

-- what holds of every value
pub ok-then : {X E : Type 0} (r : Result X E) {P Q : Type 0} → (P → Q) → IfOk r (λ x. P) → IfOk r (λ x. Q)
ok-then (Ok x) f p = f p
ok-then (Err e) f p = tt

-- the address after the bits that are left
pub base-next : (old new : Option ℕ) (address left rest : ℕ) → old ≡ Some address → new ≡ Some (unwrap_or old 0 + 8) → rest + 1 ≡ left
    → option_map (λ a. a + 8 * rest) new ≡ option_map (λ a. a + 8 * left) old
base-next old new address left rest o n one = rw (n, o) (ap Some (omega arith))

pub base-same : (next : Option ℕ) (left : ℕ) → left ≡ 0 → option_map (λ a. a + 8 * left) next ≡ next
base-same None left none = refl
base-same (Some a) left none = ap Some (omega arith)

pub words-next : (file : List ℕ) (at index next count left : ℕ) → count ≡ suc left → next ≡ suc index
    → words_left file at index count ≡ word_addresses (at + 8 * index) (bitmap_base file at index) (relr_word file (at + 8 * index)) ++ words_left file at next left
unfolding words_left
words-next file at index next count left is after = rw (is, after, words_left) refl

pub words-none : (file : List ℕ) (at index count : ℕ) → count ≡ 0 → words_left file at index count ≡ []
unfolding words_left
words-none file at index count none = rw (none, words_left) refl

pub base-more : (file : List ℕ) (at index next : ℕ) → next ≡ suc index → bitmap_base file at next ≡ base_after (bitmap_base file at index) (relr_word file (at + 8 * index))
unfolding bitmap_base
base-more file at index next after = rw (after, bitmap_base) refl

-- the word that a cursor read
pub word-read : (file : List ℕ) (known : Option (List ℕ)) (old new : CursorState) → known ≡ Some file → GivesRow known old new → HoldsRows file old
    → old.table.entry ≡ 8 → relr_word file (old.table.at + 8 * old.index) ≡ field new.row 0 8
word-read file known old new held gives holds entry =
    let place : next_row old ≡ old.table.at + 8 * old.index = ap (λ e. old.table.at + old.index * e) entry ∙ omega arith in
    let exact : new.row ≡ slice file (old.table.at + 8 * old.index) 8 = gives.exact file held holds ∙ (ap (slice file (next_row old)) entry ∙ ap (λ a. slice file a 8) place) in
    let start : old.table.at + 8 * old.index ≡ old.table.at + 8 * old.index + 0 = omega arith in
    ap (λ a. field file a 8) start ∙ (sym (field-slice file (old.table.at + 8 * old.index) 8 0 8 (omega arith)) ∙ ap (λ xs. field xs 0 8) (sym exact))

pub word-place : (old new : CursorState) → new.table ≡ old.table → old.table.entry ≡ 8 → row_at new.table old.index ≡ old.table.at + 8 * old.index
word-place old new same entry = ap (λ t. row_at t old.index) same ∙ (ap (λ e. old.table.at + old.index * e) entry ∙ omega arith)
