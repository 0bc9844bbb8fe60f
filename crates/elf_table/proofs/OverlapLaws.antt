-- LOAD segments that overlap, starting at one program header.
use Rattle.std.proofs.Common.{◌≡◌, ℕ, ◌+◌, ◌-◌, suc, ◌<◌, ◌≤◌, ◌&&◌, nat_lt, Bool, true, false, if◌then◌else◌, List, Option, None, Some, refl, add-one, arith}
use Rattle.elf_model.specs.Prelude.{e_phnum, first_page, first_refusal, loads_from, overlap_checks, overlaps_from, page_behind, segment_at, takes_memory}
use Rattle.elf_model.specs.declared.causes.Cause.TheVariants.{LoadOverlap}
use Rattle.elf_model.specs.declared.causes.Refusal.{Refusal}

-- what refuses those that are left, after a page
abbrev pub left : List ℕ → (page first count : ℕ) → Option Refusal
left file page first count = first_refusal (overlaps_from file page (loads_from file first (count - first)))

-- at the first they are all program headers of the file
pub begun : (file : List ℕ) (count : ℕ) → count ≡ e_phnum file → first_refusal (overlap_checks file) ≡ left file 0 0 count
unfolding overlap_checks
begun file count same = let whole : count - 0 ≡ e_phnum file = omega (arith, same) in rw whole refl

module _ (file : List ℕ) (page first count : ℕ) where
  more : first < count → count - first ≡ suc (count - (first + 1))
  more below = omega arith

  met_by : (taken low : Bool) → takes_memory file (segment_at file first) ≡ taken → nat_lt (first_page file (segment_at file first)) page ≡ low
      → first < count → taken && low ≡ true → left file page first count ≡ Some (record { at = segment_at file first; cause = LoadOverlap })
  unfolding loads_from overlaps_from
  met_by true true t l below h = rw (more below, loads_from, t, overlaps_from, l) refl
  met_by true false t l below h = cc
  met_by false low t l below h = cc

  passed_by : (taken low : Bool) → takes_memory file (segment_at file first) ≡ taken → nat_lt (first_page file (segment_at file first)) page ≡ low
      → first < count → taken && low ≡ false
      → left file page first count
      ≡ left file (if taken then page_behind file (segment_at file first) else page) (first + 1) count
  unfolding loads_from overlaps_from
  passed_by true true t l below h = cc
  passed_by true false t l below h = rw (more below, loads_from, t, overlaps_from, l, add-one) refl
  passed_by false low t l below h = rw (more below, loads_from, t, add-one) refl

  -- the first of them begins below the page
  pub met : first < count → takes_memory file (segment_at file first) && nat_lt (first_page file (segment_at file first)) page ≡ true
      → left file page first count ≡ Some (record { at = segment_at file first; cause = LoadOverlap })
  met below h = met_by _ _ refl refl below h

  -- or not
  pub passed : first < count → takes_memory file (segment_at file first) && nat_lt (first_page file (segment_at file first)) page ≡ false
      → left file page first count
      ≡ left file (if takes_memory file (segment_at file first) then page_behind file (segment_at file first) else page) (first + 1) count
  passed below h = passed_by _ _ refl refl below h

  -- none is left
  pub ended : count ≤ first → left file page first count ≡ None
  unfolding overlaps_from loads_from
  ended past = let none : count - first ≡ 0 = omega arith in rw none refl
