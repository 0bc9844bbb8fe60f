-- Sums of costs, and costs under a condition.
use Rattle.std.proofs.Common.{◌≡◌, ℕ, suc, zero, ◌+◌, ◌-◌, ◌*◌, ◌/◌, ◌≤◌, ◌==◌, ◌&&◌, ◌||◌, Bool, true, false, refl, ap, ◌∙◌, arith, add-zero, zero-add}
use Rattle.std.proofs.Math.Nat.{mul-le-mul_left, mul-le-mul, div-mul-le_self, add-mul, mul-add}
use Rattle.std.proofs.lemmas.Nat.{le-div}
use Rattle.std.proofs.lemmas.Bool.Decides.{nat_tests}
use Rattle.elf_model.specs.Prelude.{LastCostIsAdded, SumsGrow, cost_where, sum_over}

-- sums are concatenated
pub sums_split : (amount : ℕ → ℕ) (first count more : ℕ)
    → sum_over amount first (count + more) ≡ sum_over amount first count + sum_over amount (first + count) more
unfolding sum_over
sums_split amount first zero more = rw (zero-add more, add-zero first) (omega arith)
sums_split amount first (suc count) more =
    let step = sums_split amount (suc first) count more in
    let place : suc first + count ≡ first + suc count = omega arith in
    let total : suc count + more ≡ suc (count + more) = omega arith in
    ap (λ n. sum_over amount first n) total
    ∙ ap (λ rest. amount first + rest) (step ∙ ap (λ n. sum_over amount (suc first) count + sum_over amount n more) place)
    ∙ omega arith

pub last_cost : LastCostIsAdded
unfolding sum_over
last_cost amount first count =
    let s = sums_split amount first count 1 in
    s ∙ omega arith

pub sums_grow : SumsGrow
sums_grow amount first count more h =
    let e : more ≡ count + (more - count) = omega arith in
    let s = sums_split amount first count (more - count) in
    let t = ap (λ n. sum_over amount first n) e in
    omega arith

pub cost_where-le : (condition : Bool) (amount : ℕ) → cost_where condition amount ≤ amount
cost_where-le true amount = omega arith
cost_where-le false amount = omega arith

pub cost_where-within : (condition : Bool) (amount bound : ℕ) → (condition ≡ true → amount ≤ bound) → cost_where condition amount ≤ bound
cost_where-within true amount bound h = h refl
cost_where-within false amount bound h = omega arith

-- a cost under two conditions
pub cost_where-and : (a b : Bool) (amount bound : ℕ) → (b ≡ true → amount ≤ bound) → cost_where (a && b) amount ≤ cost_where a bound
cost_where-and true b amount bound h = cost_where-within b amount bound h
cost_where-and false b amount bound h = omega arith

-- a sum of costs within a bound
pub sum_over-le : (amount : ℕ → ℕ) (bound first count : ℕ) → ((i : ℕ) → amount i ≤ bound) → sum_over amount first count ≤ count * bound
unfolding sum_over
sum_over-le amount bound first zero h = omega arith
sum_over-le amount bound first (suc count) h =
    let one = h first in
    let more = sum_over-le amount bound (suc first) count h in
    let s : (count + 1) * bound ≡ count * bound + 1 * bound = add-mul count 1 bound in
    omega arith

-- a condition of two parts has the second
pub and-second : (a b : Bool) → a && b ≡ true → b ≡ true
and-second true b h = h
and-second false b h = cc

pub and-first : (a b : Bool) → a && b ≡ true → a ≡ true
and-first true b h = refl
and-first false b h = cc

-- entries are no more than those of 16 bytes would be
pub fewer : (entry size table : ℕ) → 16 ≤ entry → table ≤ size → table / entry ≤ size / 16
fewer entry size table e t =
    let d : table / entry * entry ≤ table = div-mul-le_self table entry in
    let m : table / entry * 16 ≤ table / entry * entry = mul-le-mul_left (table / entry) e in
    le-div (table / entry) size 16 (omega arith) (omega arith)

-- headers of a fixed size each, with their tables
pub headers_within : (each_header n bound count headers tables : ℕ) → count ≤ headers → each_header ≤ 120 + n → tables ≤ count * bound
    → each_header * count + tables ≤ headers * (120 + n + bound)
headers_within each_header n bound count headers tables few small within =
    let m : count * (each_header + bound) ≤ headers * (120 + n + bound) = mul-le-mul few (omega arith) in
    let e : count * (each_header + bound) ≡ count * each_header + count * bound = mul-add count each_header bound in
    omega arith

-- a section holds symbols or relocation entries, and not both
pub two_kinds : (type most : ℕ) → cost_where (type == 2 || type == 11) most + cost_where (type == 4 || type == 9) most ≤ most
two_kinds type most = grind (arith, nat_tests)
