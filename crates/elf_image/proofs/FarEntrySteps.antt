-- Entries that cannot store into a window: what they change may be passed by.
use Rattle.std.proofs.Common.{◌≡◌, ◌∙◌, ℕ, zero, suc, ◌+◌, ◌-◌, ◌<◌, ◌≤◌, ◌==◌, ◌&&◌, not, nat_lt, Bool, true, false, List, [], ◌∷◌, ◌++◌, length, All, Option, None, Some, Result, Ok, Err, inl, inr, ap, subst, refl, arith}
use Rattle.std.proofs.lemmas.Bool.{and_parts, cases_Bool, eqb-true, ltb-false, ne_eqb, not-true}
use Rattle.std.proofs.lemmas.List.Elements.{All-cons, All-nil, All-same}
use Rattle.elf_model.specs.Apply.{places_from}
use Rattle.elf_model.specs.Checks.{first_refusal}
use Rattle.elf_model.specs.Image.{ImageChange, ImageSource, Keeps, Lacks, Refuses, SegmentWrite, change_by, change_of_type, direct_change, direct_changes, entry_change, holder_of, holds_in_memory, is_lack, is_resolved, place_checks, resolved_changes, stored_at}
use Rattle.elf_model.specs.ImageValues.{changed_size, dynamic_symbol_checks, dynamic_type, dynamic_type_in, dynamic_types, entry_symbol, stored_bytes}
use Rattle.elf_model.specs.Numbers.{PT_LOAD, R_X86_64_NONE, R_X86_64_RELATIVE}
use Rattle.elf_model.specs.Records.{e_phnum, p_memsz, p_type, p_vaddr, r_offset, r_type, segment_at}
use Rattle.elf_model.specs.declared.causes.Cause.{Cause}
use Rattle.elf_model.specs.declared.causes.Refusal.{Refusal}
use Rattle.elf_model.specs.declared.dynamic_types.DynamicType.{DynamicType}
use Rattle.elf_model.specs.declared.dynamic_types.DynamicType.TheVariants as type
use Rattle.elf_model.proofs.CheckSteps.{first_refusal-back}
use Rattle.elf_model.proofs.ImageValues.{stored_fits}
use Rattle.elf_model.proofs.LookupSteps.{first_that-holds}
use Rattle.elf_image.specs.EntryOrder.{IsFarChange, IsFarWrite, part_changes}
use Rattle.elf_image.specs.RelaRows.{IsFarEntry, is_in_reach}
use Rattle.elf_image.specs.declared.rela_rows.WindowReach.{WindowReach}

-- A TYPE that is not R_X86_64_COPY stores at most 16 bytes
small-size : (kind : DynamicType) (file : List ℕ) (symbol : ℕ) → (kind ≡ type.Copy → ⊥) → changed_size kind file symbol ≤ 16
unfolding changed_size
small-size type.Relative file symbol other = omega arith
small-size type.Absolute file symbol other = omega arith
small-size type.Address file symbol other = omega arith
small-size type.Call file symbol other = omega arith
small-size type.Low file symbol other = omega arith
small-size type.RelativeLow file symbol other = omega arith
small-size type.Resolved file symbol other = omega arith
small-size type.Module file symbol other = omega arith
small-size type.BlockOffset file symbol other = omega arith
small-size type.ThreadOffset file symbol other = omega arith
small-size type.Copy file symbol other = absurd (other refl)
small-size type.Descriptor file symbol other = omega arith

-- rows of types have it at number 5 alone
abbrev CopyIsFive : List (ℕ × DynamicType) → Type 0
CopyIsFive [] = Unit {0}
CopyIsFive (row ∷ rows) = (row.1 ≡ type.Copy → row.0 ≡ 5) × CopyIsFive rows

copy-at : (rows : List (ℕ × DynamicType)) (number : ℕ) → CopyIsFive rows → dynamic_type_in rows number ≡ Some type.Copy → number ≡ 5
unfolding dynamic_type_in
copy-at [] number five e = absurd (cc)
copy-at (row ∷ rows) number five e = elim (cases_Bool (number == row.0)) [
  | inl here ↦ let f = rw (here, dynamic_type_in) at e in let is : row.1 ≡ type.Copy = cc in eqb-true number row.0 here ∙ five.0 is
  | inr there ↦ let f = rw (there, dynamic_type_in) at e in copy-at rows number five.1 f
]

types-have-five : CopyIsFive dynamic_types
unfolding dynamic_types
types-have-five =
    (λ e. absurd (cc), (λ e. absurd (cc), (λ e. refl, (λ e. absurd (cc), (λ e. absurd (cc), (λ e. absurd (cc), (λ e. absurd (cc), (λ e. absurd (cc), (λ e. absurd (cc), (λ e. absurd (cc), (λ e. absurd (cc), (λ e. absurd (cc), tt))))))))))))

not-copy : (number : ℕ) (kind : DynamicType) → (number ≡ 5 → ⊥) → dynamic_type number ≡ Some kind → kind ≡ type.Copy → ⊥
unfolding dynamic_type
not-copy number kind other e copy = other (copy-at dynamic_types number types-have-five (e ∙ ap Some copy))

-- A CHANGE of an entry whose address is not in reach
module _ (file : List ℕ) (reach : WindowReach) where
  pub keeps-far : IsFarChange file (Some reach) Keeps
  keeps-far write e = absurd (cc)

  pub refuses-far : (refusal : Refusal) → IsFarChange file (Some reach) (Refuses refusal)
  refuses-far refusal write e = absurd (cc)

  lacks-far : (refusal : Refusal) → IsFarChange file (Some reach) (Lacks refusal)
  lacks-far refusal write e = absurd (cc)

  stored-far : (at refused address size : ℕ) (bytes : List ℕ) (found : Option ℕ) → holder_of file address size ≡ found
      → first_refusal (place_checks file at refused address size) ≡ None → length bytes ≤ 16 → size ≤ 16 → is_in_reach reach address ≡ false
      → IsFarChange file (Some reach) (stored_at file address size bytes)
  unfolding place_checks stored_at holder_of
  stored-far at refused address size bytes None e passes few small far = let f = rw (e, place_checks) at passes in absurd (cc)
  stored-far at refused address size bytes (Some i) e passes few small far =
      let vaddr = p_vaddr file (segment_at file i) in
      let last = p_vaddr file (segment_at file i) + p_memsz file (segment_at file i) in
      let held = first_that-holds (λ k. holds_in_memory file (segment_at file k) address size) 0 (e_phnum file) i e in
      let parts = and_parts ((p_type file (segment_at file i) == PT_LOAD) && not (nat_lt address vaddr)) (not (nat_lt last (address + size))) held.0 in
      let low = ltb-false address vaddr (not-true _ (and_parts (p_type file (segment_at file i) == PT_LOAD) (not (nat_lt address vaddr)) parts.0).1) in
      let here : vaddr + (address - vaddr) ≡ address = omega (arith, low) in
      let stored : SegmentWrite = record { segment = i; size = size; stored = record { at = address - vaddr; bytes = bytes } } in
      let is_far : IsFarWrite file reach stored = record { few = few; small = small; far = ap (is_in_reach reach) here ∙ far } in
      rw (e, stored_at) (λ write is. let same : stored ≡ write = cc in subst (IsFarWrite file reach) same is_far)

module _ (source : ImageSource) (rela : ℕ) (reach : WindowReach) (far : IsFarEntry source.file rela reach) where
  abbrev Far : ImageChange → Type 0
  Far = IsFarChange source.file (Some reach)

  lack-far : (cause : Cause) (lacks : Bool)
      → Far (elim lacks [ true ↦ Lacks (record { at = rela; cause = cause }) | false ↦ Refuses (record { at = rela; cause = cause }) ])
  lack-far cause true = lacks-far source.file reach _
  lack-far cause false = refuses-far source.file reach _

  by-far : (size : ℕ) (found : Result (List ℕ) Cause) → first_refusal (place_checks source.file source.at rela (r_offset source.file rela) size) ≡ None
      → size ≤ 16 → ((bytes : List ℕ) → found ≡ Ok bytes → length bytes ≤ size) → Far (change_by source rela size found)
  unfolding change_by
  by-far size (Ok bytes) passes small fits =
      let few = fits bytes refl in
      stored-far source.file reach source.at rela (r_offset source.file rela) size bytes (holder_of source.file (r_offset source.file rela) size) refl passes (omega (arith, few, small)) small far.far
  by-far size (Err cause) passes small fits = lack-far cause (is_lack cause)

  typed-far : (kind : DynamicType) (refusal : Option Refusal) → (kind ≡ type.Copy → ⊥)
      → first_refusal (dynamic_symbol_checks kind source.file source.at rela
      ++ place_checks source.file source.at rela (r_offset source.file rela) (changed_size kind source.file (entry_symbol source.file source.at rela))) ≡ refusal
      → Far (change_of_type source rela (Some kind))
  unfolding change_of_type
  typed-far kind (Some refusal) other e = rw (e, change_of_type) (refuses-far source.file reach refusal)
  typed-far kind None other e =
      let symbol = entry_symbol source.file source.at rela in
      let size = changed_size kind source.file symbol in
      let passes = first_refusal-back (dynamic_symbol_checks kind source.file source.at rela) (place_checks source.file source.at rela (r_offset source.file rela) size) e in
      rw (e, change_of_type) (by-far size (stored_bytes kind source.file source.items rela symbol) passes (small-size kind source.file symbol other)
      (λ bytes is. stored_fits kind source.file source.items rela symbol bytes is))

  type-far : (kind : Option DynamicType) → dynamic_type (r_type source.file rela) ≡ kind → Far (change_of_type source rela kind)
  unfolding change_of_type
  type-far None e = refuses-far source.file reach _
  type-far (Some kind) e = typed-far kind _ (not-copy (r_type source.file rela) kind far.small e) refl

  entry-far : Far (entry_change source rela)
  unfolding entry_change
  entry-far = elim (cases_Bool (r_type source.file rela == R_X86_64_NONE)) [
    | inl none ↦ rw (none, entry_change) (keeps-far source.file reach)
    | inr some ↦ rw (some, entry_change) (type-far (dynamic_type (r_type source.file rela)) refl)
  ]

  pub direct-far : (relative : Bool) → Far (direct_change source relative rela)
  unfolding direct_change
  direct-far relative = elim (cases_Bool (relative && not (r_type source.file rela == R_X86_64_RELATIVE))) [
    | inl other ↦ rw (other, direct_change) (refuses-far source.file reach _)
    | inr fine ↦ elim (cases_Bool (is_resolved source.file rela)) [
      | inl later ↦ rw (fine, direct_change) (rw (later, direct_change) (keeps-far source.file reach))
      | inr now ↦ rw (fine, direct_change) (rw (now, direct_change) entry-far)
    ]
  ]

pub unresolved : (file : List ℕ) (rela : ℕ) (reach : WindowReach) → IsFarEntry file rela reach → is_resolved file rela ≡ false
unresolved file rela reach far = ne_eqb (r_type file rela) 37 far.direct

-- ENTRIES from an index on
pub none-resolved : (source : ImageSource) (place : ℕ → ℕ) (i n : ℕ) → ((k : ℕ) → i ≤ k → k < i + n → is_resolved source.file (place k) ≡ false)
    → resolved_changes source (places_from place i n) ≡ []
unfolding resolved_changes places_from
none-resolved source place i zero others = refl
none-resolved source place i (suc n) others =
    let first : is_resolved source.file (place i) ≡ false = others i (omega arith) (omega arith) in
    rw first (none-resolved source place (suc i) n (λ k low high. others k (omega (arith, low)) (omega (arith, high))))

module _ (source : ImageSource) (place : ℕ → ℕ) (reach : WindowReach) where
  directs-far : (count i n : ℕ) → ((k : ℕ) → i ≤ k → k < i + n → IsFarEntry source.file (place k) reach)
      → All (IsFarChange source.file (Some reach)) (direct_changes source count (places_from place i n))
  unfolding direct_changes places_from
  directs-far count i zero far = All-nil (IsFarChange source.file (Some reach))
  directs-far count i (suc n) far =
      All-cons (IsFarChange source.file (Some reach)) (direct_change source (nat_lt 0 count) (place i)) (direct_changes source (count - 1) (places_from place (suc i) n))
      (direct-far source (place i) reach (far i (omega arith) (omega arith)) (nat_lt 0 count))
      (directs-far (count - 1) (suc i) n (λ k low high. far k (omega (arith, low)) (omega (arith, high))))

  pub part-far : (indirect : Bool) (count i n : ℕ) → ((k : ℕ) → i ≤ k → k < i + n → IsFarEntry source.file (place k) reach)
      → All (IsFarChange source.file (Some reach)) (part_changes source indirect count (places_from place i n))
  part-far true count i n far =
      All-same (IsFarChange source.file (Some reach)) (resolved_changes source (places_from place i n)) []
      (none-resolved source place i n (λ k low high. unresolved source.file (place k) reach (far k low high))) (All-nil (IsFarChange source.file (Some reach)))
  part-far false count i n far = directs-far count i n far
