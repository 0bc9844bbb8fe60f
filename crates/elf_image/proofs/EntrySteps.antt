-- What an entry changes, check by check.
use Rattle.std.proofs.Common.{◌≡◌, ℕ, Bool, true, false, List, None, Some, Ok, Err, inl, inr, refl, ap, ◌∙◌}
use Rattle.std.proofs.lemmas.Bool.{ne_eqb}
use Rattle.elf_model.specs.Checks.{first_refusal}
use Rattle.elf_model.specs.Image.{ImageSource, Keeps, Lacks, Refuses, Stores, change_by, change_of_type, entry_change, is_lack, place_checks, stored_at}
use Rattle.elf_model.specs.ImageValues.{changed_size, dynamic_symbol_checks, dynamic_type, entry_symbol, stored_bytes}
use Rattle.elf_model.specs.Prelude.{r_offset, r_type}
use Rattle.elf_model.specs.declared.causes.Cause.{Cause}
use Rattle.elf_model.specs.declared.causes.Cause.TheVariants.{Unsupported}
use Rattle.elf_model.specs.declared.causes.Refusal.{Refusal}
use Rattle.elf_model.specs.declared.dynamic_types.DynamicType.{DynamicType}
use Rattle.elf_model.proofs.CheckSteps.{first_refusal-none, first_refusal-some}
use Rattle.elf_table.specs.Prelude.{RefusedBy}
use Rattle.elf_table.specs.declared.fault.Fault.{Fault}
use Rattle.elf_table.specs.declared.fault.Fault.TheVariants.{Refused, Source}
use Rattle.elf_image.specs.Relocated.{ChangesAs, IsHeldPlace, ReadsAfter, RefusesImage, write_at}
use Rattle.elf_image.specs.declared.place.Place.{Place}

-- bytes are stored where their place is
pub stored_here : (file : List ℕ) (address width : ℕ) (place : Place) (bytes : List ℕ) → IsHeldPlace file address width place → stored_at file address width bytes ≡ Stores (write_at place width bytes)
unfolding stored_at
stored_here file address width place bytes is = rw (is.holder, stored_at, is.offset) refl

-- AN ENTRY WITHOUT BYTES
module _ (source : ImageSource) (rela size : ℕ) (cause : Cause) where
  pub lacks_item : is_lack cause ≡ true → change_by source rela size (Err cause) ≡ Lacks (record { at = rela; cause = cause })
  unfolding change_by
  lacks_item lack = rw (lack, change_by) refl

  refuses_item : is_lack cause ≡ false → change_by source rela size (Err cause) ≡ Refuses (record { at = rela; cause = cause })
  unfolding change_by
  refuses_item other = rw (other, change_by) refl

  pub refuses_other : (partial : Bool) → is_lack cause ≡ false → RefusesImage partial (record { at = rela; cause = cause }) (change_by source rela size (Err cause))
  refuses_other partial other = inl (refuses_item other)

  pub refuses_whole : (partial : Bool) → partial ≡ false → RefusesImage partial (record { at = rela; cause = cause }) (change_by source rela size (Err cause))
  refuses_whole partial whole = by_lack (is_lack cause) refl
    where
      by_lack : (lack : Bool) → is_lack cause ≡ lack → RefusesImage partial (record { at = rela; cause = cause }) (change_by source rela size (Err cause))
      by_lack true e = inr (whole, lacks_item e)
      by_lack false e = inl (refuses_item e)

-- an entry of a type that its own number has
module _ (source : ImageSource) (rela : ℕ) where
  pub keeps_none : r_type source.file rela ≡ 0 → entry_change source rela ≡ Keeps
  unfolding entry_change
  keeps_none none = rw (none, entry_change) refl

  module _ (some : r_type source.file rela ≡ 0 → ⊥) where
    pub typed_change : entry_change source rela ≡ change_of_type source rela (dynamic_type (r_type source.file rela))
    unfolding entry_change
    typed_change = rw (ne_eqb (r_type source.file rela) 0 some, entry_change) refl

    pub untyped : dynamic_type (r_type source.file rela) ≡ None → entry_change source rela ≡ Refuses (record { at = rela; cause = Unsupported })
    unfolding change_of_type
    untyped none = typed_change ∙ rw (none, change_of_type) refl

  module _ (kind : DynamicType) where
    abbrev symbol_of : ℕ
    symbol_of = entry_symbol source.file source.at rela

    abbrev size_of_kind : ℕ
    size_of_kind = changed_size kind source.file symbol_of

    pub symbol_refused : (refusal : Refusal) → first_refusal (dynamic_symbol_checks kind source.file source.at rela) ≡ Some refusal → change_of_type source rela (Some kind) ≡ Refuses refusal
    unfolding change_of_type
    symbol_refused refusal e =
        let first = first_refusal-some (dynamic_symbol_checks kind source.file source.at rela) (place_checks source.file source.at rela (r_offset source.file rela) size_of_kind) refusal e in
        rw (first, change_of_type) refl

    pub symbol_refuses : {X : Type 0} (Is : X → Type 0) (partial : Bool) (fault : Fault) → entry_change source rela ≡ change_of_type source rela (Some kind)
        → ReadsAfter (dynamic_symbol_checks kind source.file source.at rela) Is (Err fault) → ChangesAs partial rela (Err fault) (entry_change source rela)
    symbol_refuses Is partial (Refused refusal) e reads = λ other. inl (e ∙ symbol_refused refusal (reads other))
    symbol_refuses Is partial (Source fault at) e reads = tt

    module _ (passes : first_refusal (dynamic_symbol_checks kind source.file source.at rela) ≡ None) where
      place_refused : (refusal : Refusal) → first_refusal (place_checks source.file source.at rela (r_offset source.file rela) size_of_kind) ≡ Some refusal
          → change_of_type source rela (Some kind) ≡ Refuses refusal
      unfolding change_of_type
      place_refused refusal e =
          let first = first_refusal-none (dynamic_symbol_checks kind source.file source.at rela) (place_checks source.file source.at rela (r_offset source.file rela) size_of_kind) passes ∙ e in
          rw (first, change_of_type) refl

      pub place_refuses : (partial : Bool) (fault : Fault) → RefusedBy (place_checks source.file source.at rela (r_offset source.file rela) size_of_kind) fault
          → ChangesAs partial rela (Err fault) (change_of_type source rela (Some kind))
      place_refuses partial (Refused refusal) r = λ other. inl (place_refused refusal r)
      place_refuses partial (Source fault at) r = tt

      pub passed_change : first_refusal (place_checks source.file source.at rela (r_offset source.file rela) size_of_kind) ≡ None
          → change_of_type source rela (Some kind) ≡ change_by source rela size_of_kind (stored_bytes kind source.file source.items rela symbol_of)
      unfolding change_of_type
      passed_change e =
          let first = first_refusal-none (dynamic_symbol_checks kind source.file source.at rela) (place_checks source.file source.at rela (r_offset source.file rela) size_of_kind) passes ∙ e in
          rw (first, change_of_type) refl

      pub stored_change : (place : Place) (bytes : List ℕ) → first_refusal (place_checks source.file source.at rela (r_offset source.file rela) size_of_kind) ≡ None
          → IsHeldPlace source.file (r_offset source.file rela) size_of_kind place → stored_bytes kind source.file source.items rela symbol_of ≡ Ok bytes
          → change_of_type source rela (Some kind) ≡ Stores (write_at place size_of_kind bytes)
      unfolding change_by
      stored_change place bytes e is value =
          passed_change e ∙ (ap (change_by source rela size_of_kind) value ∙ stored_here source.file (r_offset source.file rela) size_of_kind place bytes is)
