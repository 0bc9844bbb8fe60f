-- The refusals of a segment and of its dynamic entries are not that there is no hash table.
use Rattle.std.proofs.Common.{◌≡◌, ℕ, ◌%◌, ◌==◌, not, nat_lt, Bool, true, false, List, [], ◌∷◌, length, Option, None, Some, Ok, Err, refl, sym, ap, ◌∙◌}
use Rattle.elf_model.specs.Prelude.{Check, LookupTables as IsScopeOf, dynamic_segment_index, e_phnum, first_page, first_refusal, has_none, is_outside, known_symbols, loads_from, lookup_tables_by_segments, overlap_checks, overlaps_from, p_filesz, p_offset, page_behind, refuse, scope_in_segment, scope_in_segments, segment_at, segment_dynamic_checks}
use Rattle.elf_model.specs.declared.causes.Cause.TheVariants.{LoadOverlap, SizeNotWhole, TableOutside}
use Rattle.elf_model.specs.declared.causes.Refusal.{Refusal}

-- no check of some refuses for that
abbrev Others : List Check → Type 0
Others checks = (refusal : Refusal) → first_refusal checks ≡ Some refusal → has_none refusal.cause ≡ false

none_others : Others []
none_others refusal e = cc

more_others : (check : Check) (checks : List Check) → has_none check.refusal.cause ≡ false → Others checks → Others (check ∷ checks)
more_others check checks isnt others refusal e = go check.fails refl
  where
    go : (b : Bool) → check.fails ≡ b → has_none refusal.cause ≡ false
    go true t = let is : Some check.refusal ≡ Some refusal = sym (rw (t, first_refusal) refl) ∙ e in cc
    go false f = let is : first_refusal checks ≡ Some refusal = sym (rw (f, first_refusal) refl) ∙ e in others refusal is

overlap_others : (file : List ℕ) (loads : List ℕ) (page : ℕ) → Others (overlaps_from file page loads)
unfolding overlaps_from
overlap_others file [] page = none_others
overlap_others file (at ∷ loads) page =
    more_others (refuse (nat_lt (first_page file at) page) at LoadOverlap) (overlaps_from file (page_behind file at) loads) refl
    (overlap_others file loads (page_behind file at))

all_overlaps : (file : List ℕ) → Others (overlap_checks file)
unfolding overlap_checks
all_overlaps file = overlap_others file (loads_from file 0 (e_phnum file)) 0

entries_others : (file : List ℕ) (at : ℕ) → Others (segment_dynamic_checks file at)
entries_others file at refusal e = go (p_filesz file at == 0) refl
  where
    go : (b : Bool) → (p_filesz file at == 0) ≡ b → has_none refusal.cause ≡ false
    go true t =
        let none : segment_dynamic_checks file at ≡ [] = rw (t, segment_dynamic_checks) refl in
        none_others refusal (sym (ap first_refusal none) ∙ e)
    go false f =
        let range : Check = refuse (is_outside (length file) (p_offset file at) (p_filesz file at)) at TableOutside in
        let whole : Check = refuse (not (p_filesz file at % 16 == 0)) at SizeNotWhole in
        let same : segment_dynamic_checks file at ≡ whole ∷ range ∷ [] = rw (f, segment_dynamic_checks) refl in
        more_others whole (range ∷ []) refl (more_others range [] refl none_others) refusal (sym (ap first_refusal same) ∙ e)

-- so if a file's symbols are known, its dynamic entries are not refused
module _ (file : List ℕ) where
  fails_known : (index : ℕ) → dynamic_segment_index file ≡ Some index → (refusal : Refusal) → lookup_tables_by_segments file ≡ Err refusal → has_none refusal.cause ≡ false → known_symbols file ≡ Err refusal
  unfolding known_symbols
  fails_known index first refusal e isnt = rw (first, e, isnt, known_symbols) refl

  overlap_fails : (refusal : Refusal) → first_refusal (overlap_checks file) ≡ Some refusal → lookup_tables_by_segments file ≡ Err refusal
  unfolding lookup_tables_by_segments
  overlap_fails refusal e = rw (e, lookup_tables_by_segments) refl

  segment_fails : first_refusal (overlap_checks file) ≡ None → (index : ℕ) → dynamic_segment_index file ≡ Some index
      → (refusal : Refusal) → first_refusal (segment_dynamic_checks file (segment_at file index)) ≡ Some refusal → lookup_tables_by_segments file ≡ Err refusal
  unfolding lookup_tables_by_segments scope_in_segments scope_in_segment
  segment_fails apart index first refusal fails = rw (apart, first, fails, lookup_tables_by_segments, scope_in_segments, scope_in_segment) refl

  pub entries_pass : (scope : Option IsScopeOf) → known_symbols file ≡ Ok scope → (index : ℕ) → dynamic_segment_index file ≡ Some index
      → (refusal : Refusal) → first_refusal (segment_dynamic_checks file (segment_at file index)) ≡ Some refusal → ⊥
  entries_pass scope known index first refusal fails = go (first_refusal (overlap_checks file)) refl
    where
      go : (overlap : Option Refusal) → first_refusal (overlap_checks file) ≡ overlap → ⊥
      go None apart =
          let e = fails_known index first refusal (segment_fails apart index first refusal fails) (entries_others file (segment_at file index) refusal fails) in
          let both = sym known ∙ e in
          cc
      go (Some other) over =
          let e = fails_known index first other (overlap_fails other over) (all_overlaps file other over) in
          let both = sym known ∙ e in
          cc
