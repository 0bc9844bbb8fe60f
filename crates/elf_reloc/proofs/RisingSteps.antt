-- The offsets of what the entries store, and those of the entries that change bytes: the same.
use Rattle.std.proofs.Common.{◌≡◌, ℕ, ◌==◌, ◌&&◌, nat_le, Bool, true, false, inl, inr, List, [], ◌∷◌, ◌++◌, length, map, flat_map, Option, None, Some, Ok, refl, sym, ap, ◌∙◌, arith}
use Rattle.std.proofs.lemmas.Bool.{cases_Bool}
use Rattle.std.proofs.lemmas.Bool.Decides.{nat_tests}
use Rattle.elf_model.specs.Prelude.{AllInside, ApplyTarget, Fails, Put, RELA_SIZE, SectionChange, StoredBytes, and_patches, applied, applies_to, change_of, changes_of, entries_for, entries_in, entry_changes, first_refusal, never_fall_from, offsets_at, offsets_never_fall, patched, patches_of, places_from, relocation_entries, relocation_table_checks, section_changes, sh_size, slice, table_checks, target_of}
use Rattle.elf_model.specs.declared.causes.Refusal.{Refusal}
use Rattle.elf_model.proofs.ApplySteps.{offsets_at-append}
use Rattle.elf_model.proofs.CheckSteps.{first_refusal-some}
use Rattle.elf_reloc.specs.Prelude.{HasSection, IsApplyTarget, OffsetsAscend, changes_all, folded, rising}
use Rattle.elf_reloc.specs.declared.entry.ApplyTarget.{ApplyTarget as TargetCode}
use Rattle.elf_source.specs.Source.{CountedState}
use Rattle.elf_model.proofs.Slices.{slice-size}
use Rattle.elf_reloc.proofs.ApplySteps.{all_inside, and_ok, changes_same, folded_ok, text_is}
use Rattle.elf_reloc.proofs.WindowSteps.{and_is, length_patched}

-- the offsets of patches
abbrev pub offsets_of : List StoredBytes → List ℕ
offsets_of patches = map (λ (patch : StoredBytes). patch.at) patches

-- what a pass over patches implies for their offsets
pub rising_is : (so low : _) (last : Bool × ℕ) (changes : List SectionChange) (patches : List StoredBytes) → patches_of changes ≡ Ok patches → folded rising (so, low) changes ≡ Ok last → last.0 ≡ (so && never_fall_from low (offsets_of patches))
unfolding folded patches_of never_fall_from
rising_is so low last [] patches e h = grind arith
rising_is so low last (Put patch ∷ changes) patches e h =
    let one = and_is patch (patches_of changes) patches e in
    let rest = rising_is (so && nat_le low patch.at) patch.at last changes one.0 one.1 h in grind arith
rising_is so low last (Fails refusal ∷ changes) patches e h = absurd (cc)

pub never_rises : (low : ℕ) (patches : List StoredBytes) → never_fall_from low (offsets_of patches) ≡ true → OffsetsAscend low patches
unfolding OffsetsAscend never_fall_from
never_rises low [] h = tt
never_rises low (patch ∷ patches) h = let parts = both (nat_le low patch.at) (never_fall_from patch.at (offsets_of patches)) h in (grind (arith, nat_tests, parts.0), never_rises patch.at patches parts.1)
  where
    both : (a b : Bool) → a && b ≡ true → (a ≡ true) × (b ≡ true)
    both a b h = grind arith

-- changes, if none is a fault, store bytes at these offsets
abbrev Gives : List SectionChange → List ℕ → Type 0
Gives changes offsets = (patches : List StoredBytes) → patches_of changes ≡ Ok patches → offsets_of patches ≡ offsets

record Split (xs ys : List SectionChange) (patches : List StoredBytes) : Type 0 where
  front : List StoredBytes
  back : List StoredBytes
  of_front : patches_of xs ≡ Ok front
  of_back : patches_of ys ≡ Ok back
  both : patches ≡ front ++ back

split : (xs ys : List SectionChange) (patches : List StoredBytes) → patches_of (xs ++ ys) ≡ Ok patches → Split xs ys patches
unfolding patches_of
split [] ys patches h = record { front = []; back = patches; of_front = refl; of_back = h; both = refl }
split (Fails refusal ∷ xs) ys patches h = absurd (cc)
split (Put patch ∷ xs) ys patches h =
    let one = and_is patch (patches_of (xs ++ ys)) patches h in
    let rest = split xs ys one.0 one.1 in
    record { front = patch ∷ rest.front; back = rest.back; of_front = and_ok patch (patches_of xs) rest.front rest.of_front; of_back = rest.of_back; both = one.2 ∙ ap (λ ps. patch ∷ ps) rest.both }

offsets_both : (front back : List StoredBytes) → offsets_of (front ++ back) ≡ offsets_of front ++ offsets_of back
offsets_both [] back = refl
offsets_both (patch ∷ front) back = ap (λ l. patch.at ∷ l) (offsets_both front back)

gives_both : (xs ys : List SectionChange) (first second : List ℕ) → Gives xs first → Gives ys second → Gives (xs ++ ys) (first ++ second)
gives_both xs ys first second g h patches e =
    let parts = split xs ys patches e in
    ap offsets_of parts.both ∙ (offsets_both parts.front parts.back ∙ (ap (λ l. l ++ offsets_of parts.back) (g parts.front parts.of_front) ∙ ap (λ l. first ++ l) (h parts.back parts.of_back)))

gives_as : (xs ys : List SectionChange) (first second : List ℕ) → xs ≡ ys → first ≡ second → Gives ys second → Gives xs first
gives_as xs ys first second e f h patches is = h patches (sym (ap patches_of e) ∙ is) ∙ sym f

gives_none : Gives [] []
unfolding patches_of
gives_none patches e = let none : [] ≡ patches = cc in sym (ap offsets_of none)

module _ (target : ApplyTarget) (at : ℕ) where
  entry_gives : (rela : ℕ) → Gives (entry_changes target at rela) (offsets_at target.file (rela ∷ []))
  unfolding entry_changes change_of patches_of and_patches offsets_at
  entry_gives rela patches e = grind arith

  rows_give : (relas : List ℕ) → Gives (flat_map (entry_changes target at) relas) (offsets_at target.file relas)
  unfolding offsets_at
  rows_give [] = gives_none
  rows_give (rela ∷ relas) =
      gives_as _ _ _ _ refl (offsets_at-append target.file (rela ∷ []) relas) (gives_both (entry_changes target at rela) (flat_map (entry_changes target at) relas) _ _ (entry_gives rela) (rows_give relas))

module _ (target : ApplyTarget) (at : ℕ) where
  abbrev in_section : List ℕ
  in_section = entries_in target.file target.section at

  -- a table whose checks pass is empty, or its own checks pass
  own_checks : first_refusal (relocation_table_checks target.file at) ≡ None → (sh_size target.file at == 0) ≡ false → first_refusal (table_checks target.file at RELA_SIZE) ≡ None
  own_checks passed some = grind (arith, first_refusal-some (table_checks target.file at RELA_SIZE))

  section_off : applies_to target.file target.section at ≡ false → Gives (section_changes target at) (offsets_at target.file in_section)
  unfolding section_changes entries_in offsets_at patches_of
  section_off off patches e = grind arith

  section_refused : (refusal : Refusal) → applies_to target.file target.section at ≡ true → first_refusal (relocation_table_checks target.file at) ≡ Some refusal → Gives (section_changes target at) (offsets_at target.file in_section)
  unfolding section_changes patches_of
  section_refused refusal on h patches e = grind arith

  section_passed : applies_to target.file target.section at ≡ true → first_refusal (relocation_table_checks target.file at) ≡ None → Gives (section_changes target at) (offsets_at target.file in_section)
  unfolding section_changes entries_in places_from offsets_at patches_of
  section_passed on h patches e = grind (arith, nat_tests, own_checks h, rows_give target at (relocation_entries target.file at) patches)

  section_gives : Gives (section_changes target at) (offsets_at target.file in_section)
  section_gives = elim (cases_Bool (applies_to target.file target.section at)) [
    | inr off ↦ section_off off
    | inl on ↦ by_first on _ refl
  ]
    where
      by_first : applies_to target.file target.section at ≡ true → (first : Option Refusal) → first_refusal (relocation_table_checks target.file at) ≡ first → Gives (section_changes target at) (offsets_at target.file in_section)
      by_first on None h = section_passed on h
      by_first on (Some refusal) h = section_refused refusal on h

sections_give : (target : ApplyTarget) (headers : List ℕ) → Gives (flat_map (section_changes target) headers) (offsets_at target.file (flat_map (entries_in target.file target.section) headers))
unfolding offsets_at
sections_give target [] = gives_none
sections_give target (at ∷ headers) =
    gives_as _ _ _ _ refl (offsets_at-append target.file (entries_in target.file target.section at) (flat_map (entries_in target.file target.section) headers))
    (gives_both (section_changes target at) (flat_map (section_changes target) headers) _ _ (section_gives target at) (sections_give target headers))

-- a pass over all entries returns whether their offsets never decrease
module _ (target : ApplyTarget) (last : Bool × ℕ) (patches : List StoredBytes) (are : patches_of (changes_of target) ≡ Ok patches) (h : folded rising (true, 0) (changes_of target) ≡ Ok last) where
  named_by_record : last.0 ≡ never_fall_from 0 (offsets_of patches)
  named_by_record = rising_is true 0 last (changes_of target) patches are h

  all_give : Gives (changes_of target) (offsets_at target.file (entries_for target.file target.section))
  unfolding changes_of entries_for
  all_give = sections_give target _

  pub never_fall_is : offsets_never_fall target.file target.section ≡ last.0
  unfolding offsets_never_fall
  never_fall_is = ap (never_fall_from 0) (sym (all_give patches are)) ∙ sym named_by_record

  pub patches_rise : last.0 ≡ true → OffsetsAscend 0 patches
  patches_rise rises = never_rises 0 patches (sym named_by_record ∙ rises)

-- what is stored if no entry is refused: bytes within the section, whether their offsets never
-- decrease, and the result
pub record Stores (file : List ℕ) (headers : ℕ) (target : TargetCode) (at : ℕ) (rises : Bool) : Type 0 where
  pub patches : List StoredBytes
  pub are : patches_of (changes_all file target) ≡ Ok patches
  pub inside : AllInside target.size patches
  pub never_falls : offsets_never_fall file target.section ≡ rises
  pub in_order : rises ≡ true → OffsetsAscend 0 patches
  pub long : target.size ≡ length (patched patches (slice file at target.size))
  pub text : applied file headers target.section target.layout.now ≡ Ok (patched patches (slice file at target.size))

-- a pass over the entries of a target of the code returns it
module _ (src : CountedState) (target : TargetCode) (at : ℕ) (has : HasSection src target at) (file : List ℕ) (held : src.seen.file ≡ Some file) where
  pub section_long : length (slice file at target.size) ≡ target.size
  section_long = let belongs = has.opened.belongs file held in slice-size file at target.size (omega (arith, belongs.size, has.opened.size, has.within))

  pub stores : (headers : ℕ) (last : Bool × ℕ) → IsApplyTarget file headers target at → folded rising (true, 0) (changes_all file target) ≡ Ok last → Stores file headers target at last.0
  stores headers last is_at told =
      let belongs = has.opened.belongs file held in
      let found = folded_ok rising (true, 0) last (changes_all file target) told in
      let same = changes_same file headers target at belongs section_long is_at in
      let of : ApplyTarget = target_of file target.section target.layout.now in
      let are : patches_of (changes_of of) ≡ Ok found.0 = sym (ap patches_of same) ∙ found.1 in
      let folds : folded rising (true, 0) (changes_of of) ≡ Ok last = sym (ap (folded rising (true, 0)) same) ∙ told in
      let inside = all_inside file headers target at belongs section_long is_at 0 found.0 found.1 in
      record {
        patches = found.0;
        are = found.1;
        inside = inside;
        never_falls = never_fall_is of last found.0 are folds;
        in_order = patches_rise of last found.0 are folds;
        long = sym (length_patched found.0 (slice file at target.size) target.size section_long inside);
        text = text_is file headers target at belongs section_long is_at 0 found.0 found.1;
      }
