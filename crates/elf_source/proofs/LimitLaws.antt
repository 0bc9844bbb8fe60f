-- What is requested between the call that sets a limit and the call that removes it.
use Rattle.std.proofs.Common.{◌≡◌, ℕ, ◌+◌, ◌^◌, ◌<◌, ◌≤◌, Option, None, Some, refl, sym, ◌∙◌, arith}
use Rattle.std.specs.Prelude.{IfSome}
use Rattle.elf_source.specs.Source.{CountedState, SetsLimit, ExceedsBudget, counted}

-- no more is requested than the budget has, if the limit is not exceeded
pub spent_within : (budget : Option ℕ) (s0 s1 s2 : CountedState) → SetsLimit s0 s1 budget → ((most : ℕ) → s1.most ≡ Some most → s2.asked ≤ most) → IfSome budget (λ bytes. s2.asked ≤ s0.asked + bytes)
spent_within None s0 s1 s2 set within = tt
spent_within (Some bytes) s0 s1 s2 set within = let below = within (counted s0.asked bytes) set.most in omega (arith, below)

-- and it is not exceeded while it is set
pub within_budget : (budget : Option ℕ) (s0 s1 s2 : CountedState) → SetsLimit s0 s1 budget → s2.most ≡ s1.most → IfSome budget (λ bytes. s2.asked ≤ s0.asked + bytes)
within_budget budget s0 s1 s2 set same = spent_within budget s0 s1 s2 set (λ most is. (s2.within most (same ∙ is)).0)

-- if the budget is exhausted, fewer than 4,096 bytes of it are left
pub late_budget : (budget : Option ℕ) (s0 s1 s2 : CountedState) (n : ℕ) → s0.asked ≤ 2 ^ 127 → SetsLimit s0 s1 budget → ExceedsBudget s1 s2 n
    → (bytes : ℕ) × (budget ≡ Some bytes) × (s0.asked + bytes < s2.asked + 4096)
late_budget None s0 s1 s2 n small set over = let none = set.most in let some = over.is_set in cc
late_budget (Some bytes) s0 s1 s2 n small set over =
    let most : Some (counted s0.asked bytes) ≡ Some over.most = sym set.most ∙ over.is_set in
    let is : counted s0.asked bytes ≡ over.most = cc in
    let fits = set.small bytes refl in
    (bytes, refl, omega (arith, small, is, fits, over.late))

-- a budget that is exceeded is less than the most that is requested
pub budget_below : (budget asked most n : ℕ) → asked ≤ 2 ^ 127 → most ≡ counted asked budget → budget < 2 ^ 64 → most < asked + n → budget < n
budget_below budget asked most n small is fits above = omega (arith, is, small, fits, above)
