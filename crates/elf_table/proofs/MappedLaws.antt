-- The first of a file's program headers that holds some bytes.
use Rattle.std.proofs.Common.{◌≡◌, ℕ, ◌+◌, ◌-◌, suc, ◌<◌, ◌≤◌, true, false, List, None, Some, refl, add-one, arith}
use Rattle.elf_model.specs.Prelude.{is_mapped_by, mapped_from, segment_at}

module _ (file : List ℕ) (v z first count : ℕ) where
  -- the first of those that are left holds the bytes
  pub mapped_found : first < count → is_mapped_by file (segment_at file first) v z ≡ true → mapped_from file v z first (count - first) ≡ Some (segment_at file first)
  unfolding mapped_from
  mapped_found below h = let left : count - first ≡ suc (count - (first + 1)) = omega arith in rw (left, mapped_from, h) refl

  -- it does not
  pub mapped_passed : first < count → is_mapped_by file (segment_at file first) v z ≡ false
      → mapped_from file v z first (count - first) ≡ mapped_from file v z (first + 1) (count - (first + 1))
  unfolding mapped_from
  mapped_passed below h = let left : count - first ≡ suc (count - (first + 1)) = omega arith in rw (left, mapped_from, h, add-one) refl

  -- none is left
  pub mapped_none : count ≤ first → mapped_from file v z first (count - first) ≡ None
  unfolding mapped_from
  mapped_none past = let none : count - first ≡ 0 = omega arith in rw none refl
