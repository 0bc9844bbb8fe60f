-- What a step leaves of a walk.
use Rattle.std.proofs.Common.{◌≡◌, ℕ, ◌+◌, ◌*◌, ◌^◌, ◌≤◌, arith}
use Rattle.std.specs.Prelude.{Option, None, Some, Result, Ok, Err, IfOk, IfSome}

-- what holds of every result holds of a value
pub ok-of : {X E : Type 0} (r : Result X E) {P : Type 0} → P → IfOk r (λ x. P)
ok-of (Ok x) p = p
ok-of (Err e) p = tt

-- the bound of an address, for the word after
pub later : (next : Option ℕ) (left index : ℕ) → left ≡ 0 → IfSome next (λ a. a + 8 * left ≤ 2 ^ 64 + 504 * index)
    → IfSome next (λ a. a + 504 ≤ 2 ^ 64 + 504 * (index + 1))
later None left index z h = tt
later (Some a) left index z h = omega (arith, z, h)
