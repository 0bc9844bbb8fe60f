-- What an entry that was read does in a part of the order.
use Rattle.std.proofs.Common.{◌≡◌, ◌∙◌, ℕ, ◌%◌, ◌^◌, ◌&&◌, ◌==◌, not, nat_lt, Bool, true, false, List, [], ◌∷◌, All, Ok, ap, subst, sym, refl}
use Rattle.std.proofs.lemmas.Bool.{eq-eqb, ne_eqb}
use Rattle.std.proofs.lemmas.List.Elements.{All-cons, All-nil}
use Rattle.elf_model.specs.Image.{ImageChange, ImageSource, Keeps, Refuses, direct_change, direct_changes, entry_change, is_resolved, resolved_changes}
use Rattle.elf_model.specs.Numbers.{R_X86_64_RELATIVE}
use Rattle.elf_model.specs.Prelude.{r_type}
use Rattle.elf_model.specs.declared.causes.Cause.TheVariants.{Unsupported}
use Rattle.elf_record.specs.Rela.{IsRela}
use Rattle.elf_record.specs.declared.rela.Rela.{Rela}
use Rattle.elf_image.specs.EntryOrder.{TakesRow, part_changes}
use Rattle.elf_image.specs.declared.entries.EntryStep.{EntryStep}
use Rattle.elf_image.specs.declared.entries.EntryStep.TheVariants as step
use Rattle.elf_image.specs.declared.rela_rows.RelaRow.{RelaRow}

-- its type
pub type-of : (file : List ℕ) (rela kind : ℕ) (entry : Rela) → IsRela file rela entry → kind ≡ entry.r_info % 2 ^ 32 → r_type file rela ≡ kind
type-of file rela kind entry is e = sym (e ∙ ap (λ (info : ℕ). info % 2 ^ 32) is.r_info)

pub resolved-type : (file : List ℕ) (rela kind : ℕ) (entry : Rela) → IsRela file rela entry → kind ≡ entry.r_info % 2 ^ 32 → kind ≡ 37 → is_resolved file rela ≡ true
resolved-type file rela kind entry is e indirect = eq-eqb (r_type file rela) 37 (type-of file rela kind entry is e ∙ indirect)

pub other-type : (file : List ℕ) (rela kind : ℕ) (entry : Rela) → IsRela file rela entry → kind ≡ entry.r_info % 2 ^ 32 → (kind ≡ 37 → ⊥) → is_resolved file rela ≡ false
other-type file rela kind entry is e direct = ne_eqb (r_type file rela) 37 (λ indirect. direct (sym (type-of file rela kind entry is e) ∙ indirect))

pub unsupported-type : (file : List ℕ) (rela kind relative : ℕ) (entry : Rela) (fails : Bool) → IsRela file rela entry → kind ≡ entry.r_info % 2 ^ 32
    → (nat_lt 0 relative && not (kind == R_X86_64_RELATIVE)) ≡ fails → (nat_lt 0 relative && not (r_type file rela == R_X86_64_RELATIVE)) ≡ fails
unsupported-type file rela kind relative entry fails is e f =
    ap (λ (k : ℕ). nat_lt 0 relative && not (k == R_X86_64_RELATIVE)) (type-of file rela kind entry is e) ∙ f

-- in the part of the entries of R_X86_64_IRELATIVE
module _ (source : ImageSource) (rela relative : ℕ) where
  pub resolved-one : is_resolved source.file rela ≡ true → part_changes source true relative (rela ∷ []) ≡ entry_change source rela ∷ []
  unfolding resolved_changes
  resolved-one e = rw e refl

  pub resolved-none : is_resolved source.file rela ≡ false → All (λ change. change ≡ Keeps) (part_changes source true relative (rela ∷ []))
  unfolding resolved_changes
  resolved-none e = rw e (All-nil (λ change. change ≡ Keeps))

  -- in that of the others
  pub direct-refused : (nat_lt 0 relative && not (r_type source.file rela == R_X86_64_RELATIVE)) ≡ true
      → part_changes source false relative (rela ∷ []) ≡ Refuses (record { at = rela; cause = Unsupported }) ∷ []
  unfolding direct_changes direct_change
  direct-refused e = rw (e, direct_change) refl

  module _ (fine : (nat_lt 0 relative && not (r_type source.file rela == R_X86_64_RELATIVE)) ≡ false) where
    direct-later : is_resolved source.file rela ≡ true → direct_change source (nat_lt 0 relative) rela ≡ Keeps
    unfolding direct_change
    direct-later e = rw (fine, direct_change) (rw (e, direct_change) refl)

    pub direct-kept : is_resolved source.file rela ≡ true → All (λ change. change ≡ Keeps) (part_changes source false relative (rela ∷ []))
    unfolding direct_changes
    direct-kept e = All-cons (λ change. change ≡ Keeps) (direct_change source (nat_lt 0 relative) rela) [] (direct-later e) (All-nil (λ change. change ≡ Keeps))

    pub direct-one : is_resolved source.file rela ≡ false → part_changes source false relative (rela ∷ []) ≡ entry_change source rela ∷ []
    unfolding direct_changes direct_change
    direct-one e = rw (fine, direct_change) (rw (e, direct_change) refl)

-- the entry is returned
pub takes-entry : (source : ImageSource) (row : RelaRow) (changes : List ImageChange) (found : EntryStep) → found ≡ step.Entry (record { entry = row.entry; at = row.at })
    → changes ≡ entry_change source row.at ∷ [] → TakesRow source row changes (Ok found)
takes-entry source row changes found is e = subst (λ (f : EntryStep). TakesRow source row changes (Ok f)) (sym is) (e, refl, refl)
