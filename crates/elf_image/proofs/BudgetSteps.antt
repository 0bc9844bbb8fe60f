-- What is left of a limit.
use Rattle.std.proofs.lemmas.Grind.{div_ceil_times}
use Rattle.std.proofs.Math.Nat.{le-div_iff_mul-le, div-lt_iff_lt-mul}
use Rattle.std.proofs.Common.{◌≡◌, ℕ, ◌+◌, ◌-◌, ◌*◌, ◌/◌, ◌%◌, ◌^◌, ◌<◌, ◌≤◌, min, Option, None, Some, refl, ap, ◌∙◌, arith}
use Rattle.elf_source.specs.Prelude.{CountedState, left}
use Rattle.elf_reloc.specs.Applied.{OverBudget}
use Rattle.elf_image.specs.Written.{AllowsBytes}

module _ (src : CountedState) (cost : ℕ) where
  -- no limit is set
  pub allows_all : left src ≡ None → AllowsBytes src cost
  allows_all none = λ most is. let f = rw is at none in absurd (cc)

  of_left : (most room : ℕ) → left src ≡ Some room → src.most ≡ Some most → room ≡ most - src.asked
  of_left most room some is = let f = rw is at some in cc

  -- enough is left of one
  pub allows_within : (room : ℕ) → left src ≡ Some room → cost ≤ room → AllowsBytes src cost
  allows_within room some fits = λ most is.
      let same = of_left most room some is in
      let within = src.within most is in
      omega (arith, same, within.0, fits)

  -- too little is left
  pub passes_limit : (room : ℕ) → left src ≡ Some room → room < cost → OverBudget src cost
  passes_limit room some above = go src.most refl
    where
      go : (limit : Option ℕ) → src.most ≡ limit → OverBudget src cost
      go None is = let f = rw is at some in absurd (cc)
      go (Some most) is =
          let same = of_left most room some is in
          let within = src.within most is in
          record { most = most; is_set = is; above = omega (arith, same, within.0, above) }

-- sums that stay at the largest number
pub sum_above : (product walks bytes sum room : ℕ) → walks ≡ min product (2 ^ 128 - 1) → sum ≡ min (walks + bytes) (2 ^ 128 - 1) → room < 2 ^ 64 → room < sum → room < product + bytes
sum_above product walks bytes sum room is all small above = omega (arith, is, all, small, above)

pub sum_within : (product walks bytes sum room : ℕ) → walks ≡ min product (2 ^ 128 - 1) → sum ≡ min (walks + bytes) (2 ^ 128 - 1) → room < 2 ^ 64 → sum ≤ room → product + bytes ≤ room
sum_within product walks bytes sum room is all small fits = omega (arith, is, all, small, fits)

-- a product of what is counted
pub product_as : (a b passes each walks : ℕ) → a ≡ passes → b ≡ each → walks ≡ min (a * b) (2 ^ 128 - 1) → walks ≡ min (passes * each) (2 ^ 128 - 1)
product_as a b passes each walks same is all = all ∙ (ap (λ (n : ℕ). min (n * b) (2 ^ 128 - 1)) same ∙ ap (λ (n : ℕ). min (passes * n) (2 ^ 128 - 1)) is)

-- how many windows of a size there are
pub ceil_same : (x y : ℕ) → 0 < y → x / y + min 1 (x % y) ≡ (x + (y - 1)) / y
ceil_same x y some =
    let q : ℕ = x / y + min 1 (x % y) in
    let bounds = div_ceil_times x y some in
    let most = le-div_iff_mul-le {k = y} {x = q} {y = x + (y - 1)} some in
    let least = div-lt_iff_lt-mul {k = y} {x = x + (y - 1)} {y = q + 1} some in
    let next : (q + 1) * y ≡ q * y + y = omega arith in
    let a : q ≤ (x + (y - 1)) / y = most.1 (omega (arith, bounds.1, some)) in
    let b : (x + (y - 1)) / y < q + 1 = least.1 (omega (arith, bounds.0, next, some)) in
    omega (arith, a, b)
