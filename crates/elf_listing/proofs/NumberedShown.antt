-- The rows of symbols' versions, by the locations of their names.
use Rattle.std.proofs.Common.{◌≡◌, ℕ, List, refl, ap, ◌∙◌, arith}
use Rattle.elf_model.specs.Prelude.{LinePrefix, ListingStyle, chosen_row, field, number_in, place_of_record, placed_choice, slice, symbol_version_prefix, versym}
use Rattle.elf_model.proofs.Slices.{field-slice}
use Rattle.elf_listing.specs.Prelude.{reported_row, version_told}
use Rattle.elf_listing.specs.declared.numbered.VersionStrings.{VersionStrings}

-- the word of an entry
pub word_is : (file bytes : List ℕ) (at word : ℕ) → bytes ≡ slice file at 2 → word ≡ field bytes 0 2 → word ≡ versym file at
word_is file bytes at word is read = read ∙ ap (λ (b : List ℕ). field b 0 2) is ∙ field-slice file at 2 0 2 (omega arith) ∙ ap (λ (n : ℕ). field file n 2) (omega arith)

-- the row of an entry
pub reported_is : (file : List ℕ) (style : ListingStyle) (numbered : VersionStrings) (section at index word : ℕ) (front : LinePrefix) → word ≡ versym file at
    → front ≡ symbol_version_prefix style.format section index word
    → reported_row file style numbered section at index ≡ chosen_row (placed_choice style (place_of_record at 2) style.choice) front at (version_told numbered file style.cap (number_in word))
unfolding reported_row
reported_is file style numbered section at index word front is same = rw (same, is) refl
