-- The bytes of consecutive parts.
use Rattle.std.proofs.Common.{◌≡◌, ℕ, zero, suc, ◌+◌, ◌*◌, ◌/◌, ◌%◌, ◌^◌, ◌<◌, ◌≤◌, List, [], ◌∷◌, ◌++◌, length, take, drop, refl, sym, ◌∙◌, ap, arith, append_assoc, length-append, length-drop, append-nil, subst, zero-add, inl, inr}
use Rattle.std.proofs.Math.Nat.{pow-succ'}
use Rattle.std.proofs.Math.Seq.{take-add}
use Rattle.std.proofs.lemmas.Bool.{cases_lt}
use Rattle.std.proofs.lemmas.List.{take_at, drop_at, drop-drop, get_or-take, get_or-drop, get_or_past, length-take, length-take-le, take_all}
use Rattle.elf_model.specs.Bytes.{number, field, slice, little, IsBytes}
use Rattle.elf_model.proofs.Slices.{field-slice, slice-slice}
use Rattle.elf_record.specs.Parts.{RecordField, Number, Raw, place, width_of, part_spelling, PartFits, PartStands, spelling, total_width, joined_onto, joined, AllFit, FieldsAreAt}
use Rattle.elf_model.proofs.ChangeLaws.{length-little}

-- a number is read back from its bytes
pub number-little : (width n : ℕ) → n < 256 ^ width → number (little width n) ≡ n
unfolding little number
number-little zero n h = omega arith
number-little (suc width) n h =
    let power : 256 ^ suc width ≡ 256 * 256 ^ width = pow-succ' 256 width in
    let small : n / 256 < 256 ^ width = omega arith in
    rw (number-little width (n / 256) small) (omega arith)

length-part_spelling : (part : RecordField) → PartFits part → length (part_spelling part) ≡ width_of part
length-part_spelling (Number width value) fits = length-little width value
length-part_spelling (Raw width bytes) fits = fits

-- a part's bytes are at its offset
part_stands : (front rest : List ℕ) (at : ℕ) (part : RecordField) → length front ≡ at → PartFits part
    → PartStands (front ++ (part_spelling part ++ rest)) at part
unfolding field
part_stands front rest at (Number width value) here fits =
    sym (rw (drop_at front (little width value ++ rest) at here, take_at (little width value) rest width (length-little width value)) (number-little width value fits))
part_stands front rest at (Raw width bytes) here fits =
    sym (rw (drop_at front (bytes ++ rest) at here) (take_at bytes rest width fits))

pub place-is : (at k : ℕ) → place at k ≡ at + k
place-is at zero = omega arith
place-is at (suc k) = refl

-- consecutive parts are where their bytes are
all_stand : (front : List ℕ) (k : ℕ) (parts : List RecordField) → length front ≡ k → AllFit parts → FieldsAreAt (front ++ spelling parts) 0 k parts
all_stand front k [] here fits = tt
all_stand front k (part ∷ parts) here fits =
    let width : length (part_spelling part) ≡ width_of part = length-part_spelling part fits.0 in
    let next : length (front ++ part_spelling part) ≡ k + width_of part = rw (length-append front (part_spelling part)) (omega arith) in
    let later = all_stand (front ++ part_spelling part) (k + width_of part) parts next fits.1 in
    let at : length front ≡ place 0 k = omega (arith, place-is 0 k) in
    (part_stands front (spelling parts) (place 0 k) part at fits.0, rw append_assoc at later)

-- bytes are the bytes of their number
pub little-number : (bytes : List ℕ) → IsBytes bytes → little (length bytes) (number bytes) ≡ bytes
unfolding little number
little-number [] byte = refl
little-number (b ∷ bytes) byte =
    let small : b < 256 = byte 0 in
    let low : (b + 256 * number bytes) % 256 ≡ b = omega arith in
    let high : (b + 256 * number bytes) / 256 ≡ number bytes = omega arith in
    rw (low, high) (ap (λ rest. b ∷ rest) (little-number bytes (λ i. byte (suc i))))

-- a part of bytes is bytes
pub IsBytes-slice : (file : List ℕ) (at width : ℕ) → IsBytes file → IsBytes (slice file at width)
IsBytes-slice file at width byte i =
    elim (cases_lt i width) [
      | inl below ↦ rw (get_or-take width (drop at file) i 0 below, get_or-drop at file i 0) (byte (at + i))
      | inr past ↦ rw (get_or_past (take width (drop at file)) i 0 (simp length-take (omega arith))) (omega arith)
    ]

part_is : (file : List ℕ) (at : ℕ) (part : RecordField) → IsBytes file → at + width_of part ≤ length file → PartStands file at part
    → slice file at (width_of part) ≡ part_spelling part
unfolding field
part_is file at (Number width value) byte inside is_at =
    let room : width ≤ length (drop at file) = simp length-drop (omega arith) in
    let size : length (slice file at width) ≡ width = length-take-le width (drop at file) room in
    sym (ap (little width) is_at ∙ (ap (λ n. little n (number (slice file at width))) (sym size) ∙ little-number (slice file at width) (IsBytes-slice file at width byte)))
part_is file at (Raw width bytes) byte inside is_at = sym is_at

-- if parts are consecutive, the bytes are theirs
all_is : (file : List ℕ) (k : ℕ) (parts : List RecordField) → IsBytes file → k + total_width parts ≤ length file → FieldsAreAt file 0 k parts
    → slice file k (total_width parts) ≡ spelling parts
all_is file k [] byte inside is_at = refl
all_is file k (part ∷ parts) byte inside is_at =
    let here : PartStands file k part = let P : ℕ → Type 0 = λ at. PartStands file at part in subst P (place-is 0 k ∙ zero-add k) is_at.0 in
    take-add (width_of part) (total_width parts) (drop k file)
    ∙ (ap (λ rest. slice file k (width_of part) ++ take (total_width parts) rest) (drop-drop (width_of part) k file)
    ∙ (ap (λ front. front ++ slice file (k + width_of part) (total_width parts)) (part_is file k part byte (omega arith) here)
    ∙ ap (λ rest. part_spelling part ++ rest) (all_is file (k + width_of part) parts byte (omega arith) is_at.1)))

-- what is in a part of a file is in the file
part_in : (file : List ℕ) (at size k : ℕ) (part : RecordField) → k + width_of part ≤ size → PartStands (slice file at size) (place 0 k) part → PartStands file (place at k) part
part_in file at size k (Number width value) inside is_at =
    is_at ∙ (ap (λ p. field (slice file at size) p width) (place-is 0 k ∙ zero-add k) ∙ (field-slice file at size k width inside ∙ ap (λ p. field file p width) (sym (place-is at k))))
part_in file at size k (Raw width bytes) inside is_at =
    is_at ∙ (ap (λ p. slice (slice file at size) p width) (place-is 0 k ∙ zero-add k) ∙ (slice-slice file at size k width inside ∙ ap (λ p. slice file p width) (sym (place-is at k))))

all_in : (file : List ℕ) (at size k : ℕ) (parts : List RecordField) → k + total_width parts ≤ size → FieldsAreAt (slice file at size) 0 k parts → FieldsAreAt file at k parts
all_in file at size k [] inside is_at = tt
all_in file at size k (part ∷ parts) inside is_at =
    (part_in file at size k part (omega arith) is_at.0, all_in file at size (k + width_of part) parts (omega arith) is_at.1)

-- the parts of some bytes of a file are in the file
pub parts_in_file : (file : List ℕ) (at : ℕ) (bytes : List ℕ) (parts : List RecordField) → bytes ≡ slice file at (total_width parts) → FieldsAreAt bytes 0 0 parts → FieldsAreAt file at 0 parts
parts_in_file file at bytes parts is is_at = all_in file at (total_width parts) 0 parts (omega arith) (rw is at is_at)

joined_onto-is : (front : List ℕ) (parts : List RecordField) → joined_onto front parts ≡ front ++ spelling parts
joined_onto-is front [] = sym (append-nil front)
joined_onto-is front (part ∷ parts) = joined_onto-is (front ++ part_spelling part) parts ∙ append_assoc front (part_spelling part) (spelling parts)

pub joined-is : (parts : List RecordField) → joined parts ≡ spelling parts
joined-is parts = joined_onto-is [] parts

-- the bytes of parts are decoded to those parts
pub spelling_stands : (bytes : List ℕ) (parts : List RecordField) → bytes ≡ spelling parts → AllFit parts → FieldsAreAt bytes 0 0 parts
spelling_stands bytes parts is fits = rw is (all_stand [] 0 parts refl fits)

-- and no other bytes are
pub only_spelling : (bytes : List ℕ) (parts : List RecordField) → IsBytes bytes → length bytes ≡ total_width parts → FieldsAreAt bytes 0 0 parts → bytes ≡ spelling parts
only_spelling bytes parts byte size is_at =
    sym (take_all (total_width parts) bytes (omega arith)) ∙ all_is bytes 0 parts byte (omega arith) is_at

-- the contract of the bytes that some parts are encoded in
pub record IsEncoding (result : List ℕ) (parts : List RecordField) : Type 0 where
  pub spelled : result ≡ spelling parts
  pub is_at : FieldsAreAt result 0 0 parts
  pub only : (bytes : List ℕ) → IsBytes bytes → length bytes ≡ total_width parts → FieldsAreAt bytes 0 0 parts → bytes ≡ result

pub encoding : (result items : List ℕ) (parts : List RecordField) → result ≡ items → items ≡ joined parts → AllFit parts → IsEncoding result parts
encoding result items parts is joins fit =
    let spelt : result ≡ spelling parts = is ∙ (joins ∙ joined-is parts) in
    record {
      spelled = spelt;
      is_at = spelling_stands result parts spelt fit;
      only = λ bytes byte size is_at. only_spelling bytes parts byte size is_at ∙ sym spelt;
    }
