-- The budget of a link, one file after the other.
use Rattle.std.proofs.Common.{◌≡◌, ℕ, ◌+◌, ◌-◌, ◌<◌, ◌≤◌, ◌^◌, refl, sym, ap, subst, ◌∙◌, arith}
use Rattle.std.specs.Prelude.{Option, None, Some, option_map}
use Rattle.elf_source.specs.Source.{CountedState, counted, left}
use Rattle.elf_resolve.specs.ReadBudgets.{KeepsToBudget, number_of_limit}
use Rattle.elf_resolve.specs.declared.read_budget.ReadBudget.{ReadBudget}

-- NOTHING IS READ, or more after other files
pub spends_none : (budget : ReadBudget) → KeepsToBudget budget budget
spends_none budget = record { spends = λ most below spent. spent; free = λ none. none }

pub spends_same : (old new : ReadBudget) → new ≡ old → KeepsToBudget old new
spends_same old new same = subst (λ b. KeepsToBudget old b) (sym same) (spends_none old)

pub spends_then : {old middle new : ReadBudget} → KeepsToBudget old middle → KeepsToBudget middle new → KeepsToBudget old new
spends_then first second = record {
  spends = λ most below spent. second.spends most below (first.spends most below spent);
  free = λ none. second.free (first.free none);
}

-- A FILE IS OPENED, read and closed
counted_first : (asked n : ℕ) → asked ≡ 0 → n < 2 ^ 64 → counted asked n ≡ n
counted_first asked n none small = omega (arith, none, small)

pub limit_is_all : (asked : ℕ) (bytes : Option ℕ) → asked ≡ 0 → ((n : ℕ) → bytes ≡ Some n → n < 2 ^ 64) → option_map (counted asked) bytes ≡ bytes
limit_is_all asked None none small = refl
limit_is_all asked (Some n) none small = ap Some (counted_first asked n none (small n refl))

spent_more : (rest before after asked most : ℕ) → rest + before ≡ most → most < 2 ^ 128 → after ≡ before → asked ≤ rest → (rest - asked) + counted after asked ≡ most
spent_more rest before after asked most whole below same within = omega (arith, whole, below, same, within)

pub file_spends : (old opened closed : ReadBudget) (first last : CountedState) → first.most ≡ old.left → opened ≡ record old { left = option_map (λ bytes. 0) old.left }
    → last.most ≡ first.most → closed ≡ record { left = left last; asked = counted opened.asked last.asked } → KeepsToBudget old closed
file_spends old opened closed first last limit opened_is last_is closed_is =
    let asked : opened.asked ≡ old.asked = ap (λ (b : ReadBudget). b.asked) opened_is in
    let most_is : last.most ≡ old.left = last_is ∙ limit in
    subst (λ b. KeepsToBudget old b) (sym closed_is) (record {
      spends = λ most below spent.
          let here : last.most ≡ Some spent.rest = most_is ∙ spent.left in
          let within = last.within spent.rest here in
          record {
            rest = spent.rest - last.asked;
            left = ap (option_map (λ n. n - last.asked)) here;
            whole = spent_more spent.rest old.asked opened.asked last.asked most spent.whole below asked within.0;
          };
      free = λ none. ap (option_map (λ n. n - last.asked)) (most_is ∙ none);
    })

-- a limit is its number
pub limit_of_number : (one other : Option ℕ) → number_of_limit one ≡ number_of_limit other → one ≡ other
limit_of_number None None same = refl
limit_of_number None (Some n) same = absurd (omega (arith, same))
limit_of_number (Some m) None same = absurd (omega (arith, same))
limit_of_number (Some m) (Some n) same = ap Some (omega (arith, same))
