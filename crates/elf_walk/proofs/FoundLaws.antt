-- What is found for a file, by the result of the search for its traits.
use Rattle.std.proofs.Common.{◌≡◌, ℕ, ◌^◌, ◌<◌, ◌≤◌, ◌++◌, ◌⊎◌, true, false, if◌then◌else◌, List, length, Option, None, Some, Result, Ok, Err, inl, inr, refl, sym, ap, subst, ◌∙◌, nat_lt, arith}
use Rattle.std.proofs.lemmas.Bool.Decides.{nat_tests}
use Rattle.elf_model.specs.Prelude.{IsBudgetRefusal, first_refusal, header_checks, is_not_elf, load_checks, loaded_traits, state_of, traits_by_segments, traits_cost, traits_of, traits_with_stack, without_sections}
use Rattle.elf_model.specs.declared.causes.Cause.TheVariants.{Budget, Short}
use Rattle.elf_model.specs.declared.states.FileStatus.{FileStatus}
use Rattle.elf_model.specs.declared.traits.Hardening.{Hardening}
use Rattle.elf_model.specs.declared.causes.Refusal.{Refusal}
use Rattle.elf_model.specs.declared.states.FileStatus.TheVariants as state
use Rattle.elf_model.proofs.BudgetLaws.{is_budget_fault}
use Rattle.elf_model.proofs.StyleLemmas.{from_length}
use Rattle.elf_source.specs.Source.{CountedState, SetsLimit}
use Rattle.elf_source.proofs.LimitLaws.{budget_below}
use Rattle.elf_table.specs.declared.fault.Fault.TheVariants.{Refused}
use Rattle.elf_loader.specs.TraitStages.{FindsTraits}
use Rattle.elf_walk.specs.Prelude.{FindsShort, FindsWithin, IsFoundWithin, short_refusal, traits_found}
use Rattle.elf_walk.proofs.StateLaws.{judged_long}

-- a file that is too short for a file header has no traits
short_first : (file : List ℕ) (headers : ℕ) → length file < 64 → first_refusal (header_checks file ++ load_checks file headers) ≡ Some (short_refusal file)
short_first file headers short =
    let below : nat_lt (length file) (2 ^ 63) ≡ true = grind (arith, nat_tests) in
    let few : nat_lt (length file) 64 ≡ true = grind (arith, nat_tests) in
    rw (below, few) refl

refused_first : (file : List ℕ) (headers : ℕ) (refusal : Refusal) → first_refusal (header_checks file ++ load_checks file headers) ≡ Some refusal
    → traits_by_segments file headers ≡ Err refusal
unfolding traits_by_segments
refused_first file headers refusal is =
    subst (λ (first : Option Refusal). traits_by_segments file headers ≡ (elim first as (λ _. Result Hardening Refusal) [ Some it ↦ Err it | None ↦ loaded_traits file ])) is refl

with_stack_are : (file : List ℕ) (headers : ℕ) → traits_of file headers ≡ traits_with_stack file headers (traits_by_segments (without_sections file) headers)
unfolding traits_of
with_stack_are file headers = refl

short_traits : (file : List ℕ) (headers : ℕ) → length file < 64 → traits_of file headers ≡ Err (short_refusal file)
unfolding traits_with_stack
short_traits file headers short =
    let same : length (without_sections file) ≡ length file = from_length 0 file in
    with_stack_are file headers
    ∙ ap (traits_with_stack file headers)
    (refused_first (without_sections file) headers (short_refusal (without_sections file)) (short_first (without_sections file) headers (omega (arith, same)))
    ∙ ap (λ at. Err (record { at = at; cause = Short })) same)

-- what the definitions give is found, within every budget
told : (budget : Option ℕ) (headers : ℕ) (file : List ℕ) (found : Result Hardening FileStatus) → found ≡ traits_found budget file (traits_of file headers)
    → IsFoundWithin budget headers file found
told None headers file found is = is
told (Some bytes) headers file found is = inl is

finds : (budget : Option ℕ) (headers : ℕ) (file : List ℕ) (found : Result Hardening FileStatus) → IsFoundWithin budget headers file found → FindsWithin budget headers file found
finds budget headers file (Ok traits) is = is
finds budget headers file (Err state.Ok) is = is
finds budget headers file (Err (state.Refused refusal)) is = is
finds budget headers file (Err state.NoElf) is = is
finds budget headers file (Err state.Unread) is = tt
finds budget headers file (Err state.Memory) is = is

short_is : (budget : Option ℕ) (headers : ℕ) (file : List ℕ) (found : FileStatus) → length file < 64 → found ≡ state_of budget file (Some (short_refusal file))
    → FindsWithin budget headers file (Err found)
short_is budget headers file found short is =
    finds budget headers file (Err found) (told budget headers file (Err found) (ap (λ s. Err s) is ∙ sym (ap (traits_found budget file) (short_traits file headers short))))

-- THE STATE of a file that is too short
pub short_within : (budget : Option ℕ) (headers : ℕ) (file : List ℕ) (found : FileStatus) → length file < 64 → FindsShort budget file found → FindsWithin budget headers file (Err found)
short_within budget headers file state.Ok short is = short_is budget headers file state.Ok short is
short_within budget headers file (state.Refused refusal) short is = short_is budget headers file (state.Refused refusal) short is
short_within budget headers file state.NoElf short is = short_is budget headers file state.NoElf short is
short_within budget headers file state.Unread short is = tt
short_within budget headers file state.Memory short is = short_is budget headers file state.Memory short is

-- THE TRAITS of a file that has them
pub found_within : (budget : Option ℕ) (headers : ℕ) (file : List ℕ) (traits : Hardening) (s1 s2 : CountedState) → FindsTraits file headers s1 s2 (Ok traits)
    → FindsWithin budget headers file (Ok traits)
found_within budget headers file traits s1 s2 did =
    finds budget headers file (Ok traits) (told budget headers file (Ok traits) (sym (ap (traits_found budget file) did.finds)))

-- a refusal for lack of budget: the budget is less than what the traits cost
lacking_within : (budget : Option ℕ) (headers : ℕ) (file : List ℕ) (s0 s1 s2 : CountedState) (refusal : Refusal) → s0.asked ≤ 2 ^ 127 → SetsLimit s0 s1 budget
    → length file ≡ s1.seen.size → IsBudgetRefusal refusal → FindsTraits file headers s1 s2 (Err (Refused refusal)) → IsFoundWithin budget headers file (Err (state.Refused refusal))
lacking_within None headers file s0 s1 s2 refusal small set sized budget did =
    let none = set.most in let some = (did.costs.says budget).1.is_set in cc
lacking_within (Some bytes) headers file s0 s1 s2 refusal small set sized budget did =
    let says = did.costs.says budget in
    let over = says.1 in
    let is = sym over.is_set ∙ set.most in
    let asked = set.asked in
    inr (
      budget_below bytes s0.asked over.most (traits_cost file headers) small (cc) (set.small bytes refl) (omega (arith, over.above, asked)),
      (budget, omega (arith, says.0, sized)),
    )

-- a refusal of a file large enough for a file header
pub refused_within : (budget : Option ℕ) (headers : ℕ) (file : List ℕ) (s0 s1 s2 : CountedState) (refusal : Refusal) (found : FileStatus) → 64 ≤ length file → s0.asked ≤ 2 ^ 127
    → SetsLimit s0 s1 budget → length file ≡ s1.seen.size → FindsTraits file headers s1 s2 (Err (Refused refusal))
    → found ≡ (if is_not_elf refusal.cause then state.NoElf else state.Refused refusal) → FindsWithin budget headers file (Err found)
refused_within budget headers file s0 s1 s2 refusal found long small set sized did is = by (is_budget_fault refusal.cause)
  where
    by : (refusal.cause ≡ Budget) ⊎ (refusal.cause ≡ Budget → ⊥) → FindsWithin budget headers file (Err found)
    by (inl wants) =
        let foreign : is_not_elf refusal.cause ≡ false = ap is_not_elf wants in
        let same : state.Refused refusal ≡ found = sym (is ∙ ap (λ b. if b then state.NoElf else state.Refused refusal) foreign) in
        subst (λ s. FindsWithin budget headers file (Err s)) same
        (finds budget headers file (Err (state.Refused refusal)) (lacking_within budget headers file s0 s1 s2 refusal small set sized wants did))
    by (inr others) =
        finds budget headers file (Err found) (told budget headers file (Err found)
        (ap (λ s. Err s) (is ∙ judged_long budget file refusal long) ∙ sym (ap (traits_found budget file) (did.finds others))))
