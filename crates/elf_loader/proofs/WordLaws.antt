-- The feature bits of a property.
use Rattle.std.proofs.Common.{◌≡◌, ◌≢◌, ℕ, ◌+◌, ◌≤◌, ◌==◌, true, false, List, length, Option, None, Some, Err, refl, sym, ap, ◌∙◌, ne_eqb, eq-eqb}
use Rattle.std.specs.Prelude.{is_some}
use Rattle.elf_model.specs.Prelude.{GNU_PROPERTY_X86_FEATURE_1_AND, Property, field, number, property_word, slice}
use Rattle.elf_model.proofs.Slices.{slice-size}
use Rattle.elf_table.specs.Prelude.{IsOfRead}
use Rattle.elf_table.specs.declared.fault.Fault.{Fault}
use Rattle.elf_table.specs.declared.fault.Fault.TheVariants.{Refused, Source}
use Rattle.elf_loader.specs.Prelude.{ReadsWord, found_after, property_at}
use Rattle.elf_loader.specs.declared.property.PropertyHeader.{PropertyHeader}

-- it was found before
pub kept : (file : List ℕ) (at : ℕ) (head : PropertyHeader) (found : Option ℕ) → is_some found ≡ true → found ≡ found_after found (property_at file at head)
kept file at head (Some word) some = refl
kept file at head None some = absurd (cc some)

-- it is another's
other_type : (property : Property) → property.kind ≢ GNU_PROPERTY_X86_FEATURE_1_AND → None ≡ found_after None property
other_type property other = let e : (property.kind == GNU_PROPERTY_X86_FEATURE_1_AND) ≡ false = ne_eqb property.kind GNU_PROPERTY_X86_FEATURE_1_AND other in rw (e, found_after) refl

this_type : (property : Property) → property.kind ≡ GNU_PROPERTY_X86_FEATURE_1_AND → Some (property_word (Some property)) ≡ found_after None property
this_type property this = let e : (property.kind == GNU_PROPERTY_X86_FEATURE_1_AND) ≡ true = eq-eqb property.kind GNU_PROPERTY_X86_FEATURE_1_AND this in rw (e, found_after) refl

pub missing : (file : List ℕ) (at : ℕ) (head : PropertyHeader) (found : Option ℕ) → is_some found ≡ false → head.kind ≢ 0xc0000002 → None ≡ found_after found (property_at file at head)
missing file at head (Some word) none other = absurd (cc none)
missing file at head None none other = other_type (property_at file at head) other

-- its data does not have four bytes
pub other_size : (file : List ℕ) (at : ℕ) (head : PropertyHeader) (found : Option ℕ) → at + 8 + head.datasz ≤ length file → is_some found ≡ false → head.kind ≡ 0xc0000002 → head.datasz ≢ 4
    → Some 0 ≡ found_after found (property_at file at head)
other_size file at head (Some word) within none this other = absurd (cc none)
other_size file at head None within none this other =
    let sized = slice-size file (at + 8) head.datasz within in
    let e : (length (slice file (at + 8) head.datasz) == 4) ≡ false = ne_eqb (length (slice file (at + 8) head.datasz)) 4 (λ four. other (sym sized ∙ four)) in
    let zero : Some 0 ≡ Some (property_word (Some (property_at file at head))) = rw (e, property_word) refl in
    zero ∙ this_type (property_at file at head) this

-- it is read
pub read_word_is : (file : List ℕ) (at : ℕ) (head : PropertyHeader) (found : Option ℕ) (word : ℕ) → at + 8 + head.datasz ≤ length file → is_some found ≡ false → head.kind ≡ 0xc0000002 → head.datasz ≡ 4
    → word ≡ field file (at + 8) 4 → Some word ≡ found_after found (property_at file at head)
unfolding field
read_word_is file at head (Some old) word within none this four is = absurd (cc none)
read_word_is file at head None word within none this four is =
    let sized = slice-size file (at + 8) head.datasz within in
    let e : (length (slice file (at + 8) head.datasz) == 4) ≡ true = eq-eqb (length (slice file (at + 8) head.datasz)) 4 (sized ∙ four) in
    let same : word ≡ number (slice file (at + 8) head.datasz) = rw four is in
    let four_bytes : Some (number (slice file (at + 8) head.datasz)) ≡ Some (property_word (Some (property_at file at head))) = rw (e, property_word) refl in
    ap Some same ∙ (four_bytes ∙ this_type (property_at file at head) this)

-- a read failed
pub word_read_stops : (file : List ℕ) (at : ℕ) (head : PropertyHeader) (found : Option ℕ) (fault : Fault) → IsOfRead fault → ReadsWord file at head found (Err fault)
word_read_stops file at head found (Refused refusal) read = read
word_read_stops file at head found (Source fault offset) read = tt
