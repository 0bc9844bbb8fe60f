-- A read budget, and a source with the limit that it sets, from which nothing was requested before.
use Rattle.std.proofs.Common.{◌≡◌, ℕ, ◌+◌, ◌-◌, ◌<◌, ◌≤◌, Option, None, Some, option_map, refl, sym, ap, ◌∙◌, arith}
use Rattle.std.specs.Prelude.{IfSome}
use Rattle.elf_model.specs.Prelude.{IsBudgetRefusal}
use Rattle.elf_model.specs.declared.causes.Refusal.{Refusal}
use Rattle.elf_source.specs.Source.{CountedState, SetsLimit, counted}
use Rattle.elf_table.specs.Faults.{IsReadRefusal}
use Rattle.elf_capi.specs.Wants.{IsWanting}

-- the first limit of a source is the budget
pub first_limit : (budget : Option ℕ) (s0 s1 : CountedState) → SetsLimit s0 s1 budget → s0.asked ≡ 0 → s1.most ≡ budget
first_limit None s0 s1 set first = set.most
first_limit (Some bytes) s0 s1 set first =
    let fits = set.small bytes refl in
    let same : counted s0.asked bytes ≡ bytes = omega (arith, first, fits) in
    set.most ∙ ap (λ n. Some n) same

-- a limit that n more bytes would exceed is a budget of fewer
pub wanting : (budget : Option ℕ) (s : CountedState) (cost size most : ℕ) (refusal : Refusal) → s.most ≡ budget → s.asked ≡ 0 → s.most ≡ Some most → most < s.asked + cost → refusal.at < size
    → IsWanting budget cost size refusal
wanting budget s cost size most refusal limit first some above inside = (most, sym limit ∙ some, omega (arith, first, above), inside)

-- the same for reads of at most so many bytes: a refusal for lack of budget is by the limit
pub wanting_read : (budget : Option ℕ) (s t : CountedState) (cost size : ℕ) (refusal : Refusal) → s.most ≡ budget → s.asked ≡ 0 → size ≡ s.seen.size → IsReadRefusal s t cost refusal
    → IsBudgetRefusal refusal → IsWanting budget cost size refusal
wanting_read budget s t cost size refusal limit first sized says is =
    let over = says is in
    wanting budget s cost size over.1.most refusal limit first over.1.is_set over.1.above (omega (arith, sized, over.0))

-- no more is read than the budget has
pub spent : (budget : Option ℕ) (s t : CountedState) (asked : ℕ) → s.most ≡ budget → asked ≡ t.asked → ((most : ℕ) → s.most ≡ Some most → t.asked ≤ most) → IfSome budget (λ bytes. asked ≤ bytes)
spent None s t asked limit is within = tt
spent (Some bytes) s t asked limit is within = let most = within bytes limit in omega (arith, is, most)

-- nor is less than that
pub spends_less : (budget : Option ℕ) (less asked : ℕ) → less ≤ asked → IfSome budget (λ bytes. asked ≤ bytes) → IfSome budget (λ bytes. less ≤ bytes)
spends_less None less asked few within = tt
spends_less (Some bytes) less asked few within = omega (arith, few, within)

-- a budget of which n bytes are left
pub rest_wanting : (budget : Option ℕ) (asked cost size : ℕ) (refusal : Refusal) → IsWanting (option_map (λ bytes. bytes - asked) budget) cost size refusal
    → (bytes : ℕ) × (budget ≡ Some bytes) × (bytes < asked + cost)
rest_wanting None asked cost size refusal wants = let none = wants.1 in absurd (cc)
rest_wanting (Some bytes) asked cost size refusal wants =
    let is : Some (bytes - asked) ≡ Some wants.0 = wants.1 in
    let same : bytes - asked ≡ wants.0 = cc in
    (bytes, refl, omega (arith, same, wants.2))

-- after n bytes, no more is read than the budget has
pub rest_spent : (budget : Option ℕ) (asked more : ℕ) (s t : CountedState) → s.most ≡ option_map (λ bytes. bytes - asked) budget → more ≡ t.asked → t.most ≡ s.most
    → IfSome budget (λ bytes. asked ≤ bytes) → IfSome budget (λ bytes. asked + more ≤ bytes)
rest_spent None asked more s t limit is same before = tt
rest_spent (Some bytes) asked more s t limit is same before = let most = (t.within (bytes - asked) (same ∙ limit)).0 in omega (arith, is, most, before)
