-- Where a link is among its steps: each step leads to the next.
use Rattle.std.proofs.Common.{◌≡◌, ◌≢◌, ℕ, zero, suc, ◌+◌, ◌<◌, ◌≤◌, Bool, true, false, List, [], ◌∷◌, ◌++◌, length, length-append, length-drop, drop, refl, sym, ap, subst, ◌∙◌, ◌⊎◌, inl, inr, eqb, append_assoc, arith}
use Rattle.std.specs.Prelude.{None, Some, ◌==◌}
use Rattle.std.specs.List.{slice_get}
use Rattle.std.proofs.lemmas.List.{append-nil}
use Rattle.std.proofs.lemmas.Bool.Decides.{eqb_tells}
use Rattle.elf_model.specs.LinkInputs.{InputFile, LinkInputs, Linking, group_settled, input_again, input_taken, inputs_again, inputs_taken}
use Rattle.elf_model.specs.LinkInputs.LinkInputs.{NoInputs, Input, Group}
use Rattle.elf_resolve.specs.KeyOrders.{AreDistinctInputs}
use Rattle.elf_resolve.specs.LinkPlaces.{AreGroupsAt, AreRoundsAfter, EnteredGroup, IsLinkAt, IsReached, IsRoundAfter, IsRoundAt, groups_ended, input_made, inputs_made, steps_after}
use Rattle.elf_resolve.specs.Plans.{AreDistinctSteps, plan_steps}
use Rattle.elf_resolve.specs.declared.link_files.LinkStep.{LinkStep}
use Rattle.elf_resolve.specs.declared.link_files.LinkStep.TheVariants as step
use Rattle.elf_resolve.specs.declared.resolver.OpenGroup.{OpenGroup}
use Rattle.elf_resolve.proofs.GroupLaws.{group_done, group_more}
use borrow.Author.Count.{below_more}

-- the step at a place, and those after it
drop_next : {A : Type 0} → (xs : List A) (i : ℕ) (x : A) → slice_get xs i ≡ Some x → drop i xs ≡ x ∷ drop (suc i) xs
drop_next [] i x is = absurd cc
drop_next (y ∷ ys) zero x is = cc
drop_next (y ∷ ys) (suc i) x is = drop_next ys i x is

drop_none : {A : Type 0} → (xs : List A) (i : ℕ) → slice_get xs i ≡ None → drop i xs ≡ []
drop_none [] zero is = refl
drop_none [] (suc i) is = refl
drop_none (y ∷ ys) zero is = absurd cc
drop_none (y ∷ ys) (suc i) is = drop_none ys i is

-- a list with one element more
last_same : {A : Type 0} → (xs ys : List A) (x y : A) → xs ++ x ∷ [] ≡ ys ++ y ∷ [] → (xs ≡ ys) × (x ≡ y)
last_same [] [] x y is = (refl, cc)
last_same [] (b ∷ []) x y is = absurd cc
last_same [] (b ∷ (c ∷ ys)) x y is = absurd cc
last_same (a ∷ []) [] x y is = absurd cc
last_same (a ∷ (c ∷ xs)) [] x y is = absurd cc
last_same (a ∷ xs) (b ∷ ys) x y is =
    let rest : xs ++ x ∷ [] ≡ ys ++ y ∷ [] = cc in
    let same = last_same xs ys x y rest in
    let left : xs ≡ ys = same.0 in
    (cc, same.1)

-- what is reached
reached_more : (steps : List LinkStep) (is_new : ℕ → Bool) (reached : ℕ) → ((input : ℕ) → slice_get steps reached ≡ Some (step.Input input) → ⊥) → IsReached steps is_new reached → IsReached steps is_new (suc reached)
reached_more steps is_new reached none is = record {
  before = λ i input below at.
      below_more (λ k. slice_get steps k ≡ Some (step.Input input) → is_new input ≡ false) reached (λ k less there. is.before k input less there) (λ there. absurd (none input there)) i (omega arith) at;
  from = λ i input above at. is.from i input (omega arith) at;
}

-- a tail of rounds, when more is reached
rounds_more : (reached more count : ℕ) (groups : List EnteredGroup) → reached ≤ more → more + length (steps_after groups) ≤ count → AreRoundsAfter reached count groups → AreRoundsAfter more count groups
rounds_more reached more count [] less within rounds = tt
rounds_more reached more count (g ∷ groups) less within rounds = (
  round_more g.again reached more count (length (plan_steps g.rest)) (length (steps_after groups)) less (omega (arith, within, length-append (plan_steps g.rest) (steps_after groups))) rounds.0,
  rounds_more reached more count groups less (omega (arith, within, length-append (plan_steps g.rest) (steps_after groups))) rounds.1,
) where
  round_more : (again : Bool) (reached more count here after : ℕ) → reached ≤ more → more + (here + after) ≤ count → IsRoundAfter again reached count here after → IsRoundAfter again more count here after
  round_more false reached more count here after less within round = within
  round_more true reached more count here after less within round = omega (arith, less, round)

none_last : {A : Type 0} → (xs : List A) (x : A) → [] ≡ xs ++ x ∷ [] → ⊥
none_last [] x is = cc
none_last (y ∷ xs) x is = cc

-- what is left after an end
round_left : (outer : Bool) (reached count here after : ℕ) → count < reached + suc (here + after) → IsRoundAfter outer reached count here after → IsRoundAt outer reached count here after
round_left false reached count here after within first = omega (arith, within, first)
round_left true reached count here after within first = first

step_same : (i j : ℕ) → Some (step.Input i) ≡ Some (step.Input j) → j ≡ i
step_same i j is = cc

stays_old : (is_new now : ℕ → Bool) (index input : ℕ) → now index ≡ false → ((j : ℕ) → j ≢ index → now j ≡ is_new j) → is_new input ≡ false → now input ≡ false
stays_old is_new now index input old others was = by (eqb_tells input index) where
  by : ((eqb input index ≡ true) × (input ≡ index)) ⊎ ((eqb input index ≡ false) × (input ≢ index)) → now input ≡ false
  by (inl (is, same)) = ap now same ∙ old
  by (inr (is, differ)) = others input differ ∙ was

module _ (files : ℕ → InputFile) (whole : Linking) (steps : List LinkStep) where
  -- the first step
  pub place_starts : (inputs : LinkInputs) (link : Linking) (is_new : ℕ → Bool) → plan_steps inputs ≡ steps → inputs_taken files inputs link ≡ whole
      → ((i input : ℕ) → slice_get steps i ≡ Some (step.Input input) → is_new input ≡ true) → IsLinkAt files whole steps link [] is_new 0
  place_starts inputs link is_new are makes new = record {
    left = inputs;
    again = false;
    groups = [];
    reached = 0;
    steps_left = sym are ∙ sym (append-nil (plan_steps inputs));
    makes = makes;
    groups_are = refl;
    round = omega (arith, ap length are);
    rounds = tt;
    is_reached = record { before = λ i input below at. absurd (omega (arith, below)); from = λ i input above at. new i input at };
  }

  -- the end
  ends_by : (link : Linking) (left : LinkInputs) (again : Bool) (groups : List EnteredGroup) → [] ≡ plan_steps left ++ steps_after groups → groups_ended files groups (inputs_made files again left link) ≡ whole → link ≡ whole
  ends_by link NoInputs false [] none makes = makes
  ends_by link NoInputs true [] none makes = makes
  ends_by link NoInputs again (g ∷ groups) none makes = absurd cc
  ends_by link (Input index rest) again groups none makes = absurd cc
  ends_by link (Group group rest) again groups none makes = absurd cc

  pub place_ends : (link : Linking) (open_groups : List OpenGroup) (is_new : ℕ → Bool) (place : ℕ) → slice_get steps place ≡ None → IsLinkAt files whole steps link open_groups is_new place → link ≡ whole
  place_ends link open_groups is_new place none at = ends_by link at.left at.again at.groups (sym (drop_none steps place none) ∙ at.steps_left) at.makes

  -- a group begins
  opens_by : (link : Linking) (open_groups : List OpenGroup) (is_new : ℕ → Bool) (place : ℕ) (left : LinkInputs) (again : Bool) (groups : List EnteredGroup) (reached : ℕ)
      → slice_get steps place ≡ Some step.Open → drop place steps ≡ plan_steps left ++ steps_after groups → groups_ended files groups (inputs_made files again left link) ≡ whole
      → AreGroupsAt steps groups open_groups → IsRoundAt again reached (length steps) (length (plan_steps left)) (length (steps_after groups)) → AreRoundsAfter reached (length steps) groups → IsReached steps is_new reached
      → IsLinkAt files whole steps link (open_groups ++ record { first = suc place; asked = link.keys.asked } ∷ []) is_new (suc place)
  opens_by link open_groups is_new place NoInputs again [] reached here are makes groups_are round rounds is = let next = drop_next steps place step.Open here in absurd cc
  opens_by link open_groups is_new place NoInputs again (g ∷ groups) reached here are makes groups_are round rounds is = let next = drop_next steps place step.Open here in absurd cc
  opens_by link open_groups is_new place (Input index rest) again groups reached here are makes groups_are round rounds is = let next = drop_next steps place step.Open here in absurd cc
  opens_by link open_groups is_new place (Group group rest) false groups reached here are makes groups_are round rounds is =
      let next = drop_next steps place step.Open here in
      let after : drop (suc place) steps ≡ (plan_steps group ++ (step.Close ∷ plan_steps rest)) ++ steps_after groups = cc in
      let at : reached ≡ place = omega (arith, round, ap length are, ap length next, length-drop place steps, length-append (plan_steps (Group group rest)) (steps_after groups)) in
      let count = length-append (plan_steps group) (step.Close ∷ plan_steps rest) in
      let counts = length-append (plan_steps rest) (steps_after groups) in
      let seen : slice_get steps reached ≡ Some step.Open = ap (λ n. slice_get steps n) at ∙ here in
      let left_is : drop (suc place) steps ≡ plan_steps group ++ (step.Close ∷ (plan_steps rest ++ steps_after groups)) = after ∙ append_assoc (plan_steps group) (step.Close ∷ plan_steps rest) (steps_after groups) in
      record {
        left = group;
        again = false;
        groups = record { group = group; asked = link.keys.asked; rest = rest; again = false } ∷ groups;
        reached = suc reached;
        steps_left = left_is;
        makes = makes;
        groups_are = (open_groups, record { first = suc place; asked = link.keys.asked }, refl, record { asked = refl; first = left_is }, groups_are);
        round = omega (arith, round, count, counts);
        rounds = (omega (arith, round, count), rounds_more reached (suc reached) (length steps) groups (omega arith) (omega (arith, round, count)) rounds);
        is_reached = reached_more steps is_new reached (λ input there. let differ : Some step.Open ≡ Some (step.Input input) = sym seen ∙ there in cc) is;
      }
  opens_by link open_groups is_new place (Group group rest) true groups reached here are makes groups_are round rounds is =
      let next = drop_next steps place step.Open here in
      let after : drop (suc place) steps ≡ (plan_steps group ++ (step.Close ∷ plan_steps rest)) ++ steps_after groups = cc in
      let counts = length-append (plan_steps rest) (steps_after groups) in
      let left_is : drop (suc place) steps ≡ plan_steps group ++ (step.Close ∷ (plan_steps rest ++ steps_after groups)) = after ∙ append_assoc (plan_steps group) (step.Close ∷ plan_steps rest) (steps_after groups) in
      record {
        left = group;
        again = true;
        groups = record { group = group; asked = link.keys.asked; rest = rest; again = true } ∷ groups;
        reached = reached;
        steps_left = left_is;
        makes = makes;
        groups_are = (open_groups, record { first = suc place; asked = link.keys.asked }, refl, record { asked = refl; first = left_is }, groups_are);
        round = omega (arith, round, counts);
        rounds = (round, rounds);
        is_reached = is;
      }

  pub place_opens : (link : Linking) (open_groups : List OpenGroup) (is_new : ℕ → Bool) (place next asked : ℕ) → next ≡ place + 1 → asked ≡ link.keys.asked → slice_get steps place ≡ Some step.Open
      → IsLinkAt files whole steps link open_groups is_new place → IsLinkAt files whole steps link (open_groups ++ record { first = next; asked = asked } ∷ []) is_new next
  place_opens link open_groups is_new place next asked next_is asked_is here at =
      let begun = opens_by link open_groups is_new place at.left at.again at.groups at.reached here at.steps_left at.makes at.groups_are at.round at.rounds at.is_reached in
      let one : suc place ≡ next = omega (arith, next_is) in
      subst (λ n. IsLinkAt files whole steps link (open_groups ++ record { first = n; asked = asked } ∷ []) is_new n) one
      (subst (λ a. IsLinkAt files whole steps link (open_groups ++ record { first = suc place; asked = a } ∷ []) is_new (suc place)) (sym asked_is) begun)

  -- an input
  inputs_by : (link made : Linking) (open_groups : List OpenGroup) (is_new now : ℕ → Bool) (place index : ℕ) (left : LinkInputs) (again : Bool) (groups : List EnteredGroup) (reached : ℕ)
      → AreDistinctSteps steps → made ≡ input_made (is_new index) link index (files index) → now index ≡ false → ((j : ℕ) → j ≢ index → now j ≡ is_new j)
      → slice_get steps place ≡ Some (step.Input index) → drop place steps ≡ plan_steps left ++ steps_after groups → groups_ended files groups (inputs_made files again left link) ≡ whole
      → AreGroupsAt steps groups open_groups → IsRoundAt again reached (length steps) (length (plan_steps left)) (length (steps_after groups)) → AreRoundsAfter reached (length steps) groups → IsReached steps is_new reached
      → IsLinkAt files whole steps made open_groups now (suc place)
  inputs_by link made open_groups is_new now place index NoInputs again [] reached distinct made_is old others here are makes groups_are round rounds is =
      let next = drop_next steps place (step.Input index) here in absurd cc
  inputs_by link made open_groups is_new now place index NoInputs again (g ∷ groups) reached distinct made_is old others here are makes groups_are round rounds is =
      let next = drop_next steps place (step.Input index) here in absurd cc
  inputs_by link made open_groups is_new now place index (Group group rest) again groups reached distinct made_is old others here are makes groups_are round rounds is =
      let next = drop_next steps place (step.Input index) here in absurd cc
  inputs_by link made open_groups is_new now place index (Input other rest) false groups reached distinct made_is old others here are makes groups_are round rounds is =
      let next = drop_next steps place (step.Input index) here in
      let after : drop (suc place) steps ≡ plan_steps rest ++ steps_after groups = cc in
      let same : other ≡ index = cc in
      let at : reached ≡ place = omega (arith, round, ap length are, ap length next, length-drop place steps, length-append (plan_steps rest) (steps_after groups)) in
      let first : is_new index ≡ true = is.from place index (omega (arith, at)) here in
      let taken : made ≡ input_taken link other (files other) =
      made_is ∙ ap (λ b. input_made b link index (files index)) first ∙ ap (λ i. input_taken link i (files i)) (sym same) in
      record {
        left = rest;
        again = false;
        groups = groups;
        reached = suc reached;
        steps_left = after;
        makes = ap (λ l. groups_ended files groups (inputs_taken files rest l)) taken ∙ makes;
        groups_are = groups_are;
        round = omega (arith, round);
        rounds = rounds_more reached (suc reached) (length steps) groups (omega arith) (omega (arith, round)) rounds;
        is_reached = record {
          before = λ i input below there.
              below_more (λ k. slice_get steps k ≡ Some (step.Input input) → now input ≡ false) reached (λ k less at_k. stays_old is_new now index input old others (is.before k input less at_k))
              (λ at_k. let one : input ≡ index = step_same index input (sym here ∙ ap (λ n. slice_get steps n) (sym at) ∙ at_k) in ap now one ∙ old) i (omega (arith, below)) there;
          from = λ i input above there. others input (λ one. absurd (omega (arith, above, at, distinct i place index (there ∙ ap (λ n. Some (step.Input n)) one) here))) ∙ is.from i input (omega (arith, above)) there;
        };
      }
  inputs_by link made open_groups is_new now place index (Input other rest) true groups reached distinct made_is old others here are makes groups_are round rounds is =
      let next = drop_next steps place (step.Input index) here in
      let after : drop (suc place) steps ≡ plan_steps rest ++ steps_after groups = cc in
      let same : other ≡ index = cc in
      let below : place < reached = omega (arith, round, ap length are, ap length next, length-drop place steps, length-append (plan_steps rest) (steps_after groups)) in
      let again : is_new index ≡ false = is.before place index below here in
      let taken : made ≡ input_again link other (files other) =
      made_is ∙ ap (λ b. input_made b link index (files index)) again ∙ ap (λ i. input_again link i (files i)) (sym same) in
      record {
        left = rest;
        again = true;
        groups = groups;
        reached = reached;
        steps_left = after;
        makes = ap (λ l. groups_ended files groups (inputs_again files rest l)) taken ∙ makes;
        groups_are = groups_are;
        round = round;
        rounds = rounds;
        is_reached = record {
          before = λ i input less there. stays_old is_new now index input old others (is.before i input less there);
          from = λ i input above there. others input (λ one. absurd (omega (arith, above, below, distinct i place index (there ∙ ap (λ n. Some (step.Input n)) one) here))) ∙ is.from i input above there;
        };
      }

  pub place_takes : (link made : Linking) (open_groups : List OpenGroup) (is_new now : ℕ → Bool) (place next index : ℕ) → AreDistinctSteps steps → next ≡ place + 1 → made ≡ input_made (is_new index) link index (files index)
      → now index ≡ false → ((j : ℕ) → j ≢ index → now j ≡ is_new j) → slice_get steps place ≡ Some (step.Input index)
      → IsLinkAt files whole steps link open_groups is_new place → IsLinkAt files whole steps made open_groups now next
  place_takes link made open_groups is_new now place next index distinct next_is made_is old others here at =
      let one : suc place ≡ next = omega (arith, next_is) in
      subst (λ n. IsLinkAt files whole steps made open_groups now n) one
      (inputs_by link made open_groups is_new now place index at.left at.again at.groups at.reached distinct made_is old others here at.steps_left at.makes at.groups_are at.round at.rounds at.is_reached)

  -- a group ends
  made_none : (again : Bool) (link : Linking) → inputs_made files again NoInputs link ≡ link
  made_none false link = refl
  made_none true link = refl

  ended_by : (link : Linking) (before : List OpenGroup) (is_new : ℕ → Bool) (place : ℕ) (again : Bool) (g : EnteredGroup) (outer : Bool) (groups : List EnteredGroup) (reached : ℕ)
      → g.again ≡ outer → slice_get steps place ≡ Some step.Close → drop place steps ≡ step.Close ∷ (plan_steps g.rest ++ steps_after groups) → groups_ended files groups (inputs_made files g.again g.rest link) ≡ whole
      → AreGroupsAt steps groups before → IsRoundAt again reached (length steps) 0 (length (step.Close ∷ (plan_steps g.rest ++ steps_after groups)))
      → IsRoundAfter outer reached (length steps) (length (plan_steps g.rest)) (length (steps_after groups)) → AreRoundsAfter reached (length steps) groups → IsReached steps is_new reached
      → IsLinkAt files whole steps link before is_new (suc place)
  ended_by link before is_new place false g true groups reached outer_is here are makes groups_are round first rounds is =
      absurd (omega (arith, round, first, length-append (plan_steps g.rest) (steps_after groups)))
  ended_by link before is_new place false g false groups reached outer_is here are makes groups_are round first rounds is =
      let next = drop_next steps place step.Close here in
      let after : drop (suc place) steps ≡ plan_steps g.rest ++ steps_after groups = cc in
      let at : reached ≡ place = omega (arith, round, ap length are, ap length next, length-drop place steps) in
      let seen : slice_get steps reached ≡ Some step.Close = ap (λ n. slice_get steps n) at ∙ here in
      let counts = length-append (plan_steps g.rest) (steps_after groups) in
      record {
        left = g.rest;
        again = g.again;
        groups = groups;
        reached = suc reached;
        steps_left = after;
        makes = makes;
        groups_are = groups_are;
        round = subst (λ o. IsRoundAt o (suc reached) (length steps) (length (plan_steps g.rest)) (length (steps_after groups))) (sym outer_is) (omega (arith, round, counts));
        rounds = rounds_more reached (suc reached) (length steps) groups (omega arith) (omega (arith, round, counts)) rounds;
        is_reached = reached_more steps is_new reached (λ input there. let differ : Some step.Close ≡ Some (step.Input input) = sym seen ∙ there in cc) is;
      }
  ended_by link before is_new place true g outer groups reached outer_is here are makes groups_are round first rounds is =
      let next = drop_next steps place step.Close here in
      let after : drop (suc place) steps ≡ plan_steps g.rest ++ steps_after groups = cc in
      record {
        left = g.rest;
        again = g.again;
        groups = groups;
        reached = reached;
        steps_left = after;
        makes = makes;
        groups_are = groups_are;
        round = subst (λ o. IsRoundAt o reached (length steps) (length (plan_steps g.rest)) (length (steps_after groups))) (sym outer_is)
            (round_left outer reached (length steps) (length (plan_steps g.rest)) (length (steps_after groups)) (omega (arith, round, length-append (plan_steps g.rest) (steps_after groups))) first);
        rounds = rounds;
        is_reached = is;
      }

  closes_by : (link : Linking) (open_groups before : List OpenGroup) (last : OpenGroup) (is_new : ℕ → Bool) (place : ℕ) (left : LinkInputs) (again : Bool) (groups : List EnteredGroup) (reached : ℕ)
      → open_groups ≡ before ++ last ∷ [] → link.keys.asked ≡ last.asked
      → slice_get steps place ≡ Some step.Close → drop place steps ≡ plan_steps left ++ steps_after groups → groups_ended files groups (inputs_made files again left link) ≡ whole
      → AreGroupsAt steps groups open_groups → IsRoundAt again reached (length steps) (length (plan_steps left)) (length (steps_after groups)) → AreRoundsAfter reached (length steps) groups → IsReached steps is_new reached
      → IsLinkAt files whole steps link before is_new (suc place)
  closes_by link open_groups before last is_new place NoInputs again [] reached last_is same here are makes groups_are round rounds is =
      let next = drop_next steps place step.Close here in absurd cc
  closes_by link open_groups before last is_new place (Input index rest) again groups reached last_is same here are makes groups_are round rounds is =
      let next = drop_next steps place step.Close here in absurd cc
  closes_by link open_groups before last is_new place (Group group rest) again groups reached last_is same here are makes groups_are round rounds is =
      let next = drop_next steps place step.Close here in absurd cc
  closes_by link open_groups before last is_new place NoInputs again (g ∷ groups) reached last_is same here are makes groups_are round rounds is =
      let tops = last_same before groups_are.0 last groups_are.1 (sym last_is ∙ groups_are.2) in
      let asked : link.keys.asked ≡ g.asked = same ∙ ap (λ (o : OpenGroup). o.asked) tops.1 ∙ groups_are.3.asked in
      let settled = ap (λ l. groups_ended files groups (inputs_made files g.again g.rest l)) (sym (group_done files g.group link g.asked asked) ∙ sym (ap (λ l. group_settled (inputs_again files g.group) g.asked l) (made_none again link))) in
      ended_by link before is_new place again g g.again groups reached refl here are (settled ∙ makes)
      (subst (λ os. AreGroupsAt steps groups os) (sym tops.0) groups_are.4) round rounds.0 rounds.1 is

  pub place_closes : (link : Linking) (open_groups before : List OpenGroup) (last : OpenGroup) (is_new : ℕ → Bool) (place next : ℕ) → next ≡ place + 1 → open_groups ≡ before ++ last ∷ [] → link.keys.asked ≡ last.asked
      → slice_get steps place ≡ Some step.Close → IsLinkAt files whole steps link open_groups is_new place → IsLinkAt files whole steps link before is_new next
  place_closes link open_groups before last is_new place next next_is last_is same here at =
      let one : suc place ≡ next = omega (arith, next_is) in
      subst (λ n. IsLinkAt files whole steps link before is_new n) one
      (closes_by link open_groups before last is_new place at.left at.again at.groups at.reached last_is same here at.steps_left at.makes at.groups_are at.round at.rounds at.is_reached)

  -- a group is taken once more
  again_by : (link : Linking) (before : List OpenGroup) (last : OpenGroup) (is_new : ℕ → Bool) (place : ℕ) (again : Bool) (g : EnteredGroup) (outer : Bool) (groups : List EnteredGroup) (reached : ℕ)
      → g.again ≡ outer → slice_get steps place ≡ Some step.Close → drop place steps ≡ step.Close ∷ (plan_steps g.rest ++ steps_after groups)
      → groups_ended files groups (inputs_made files g.again g.rest (group_settled (inputs_again files g.group) link.keys.asked (inputs_again files g.group link))) ≡ whole
      → drop last.first steps ≡ plan_steps g.group ++ (step.Close ∷ (plan_steps g.rest ++ steps_after groups))
      → AreGroupsAt steps groups before → IsRoundAt again reached (length steps) 0 (length (step.Close ∷ (plan_steps g.rest ++ steps_after groups)))
      → IsRoundAfter outer reached (length steps) (length (plan_steps g.rest)) (length (steps_after groups)) → AreRoundsAfter reached (length steps) groups → IsReached steps is_new reached
      → IsLinkAt files whole steps link (before ++ record { first = last.first; asked = link.keys.asked } ∷ []) is_new last.first
  again_by link before last is_new place false g true groups reached outer_is here are makes first_is groups_are round first rounds is =
      absurd (omega (arith, round, first, length-append (plan_steps g.rest) (steps_after groups)))
  again_by link before last is_new place false g false groups reached outer_is here are makes first_is groups_are round first rounds is =
      let next = drop_next steps place step.Close here in
      let at : reached ≡ place = omega (arith, round, ap length are, ap length next, length-drop place steps) in
      let seen : slice_get steps reached ≡ Some step.Close = ap (λ n. slice_get steps n) at ∙ here in
      let counts = length-append (plan_steps g.rest) (steps_after groups) in
      record {
        left = g.group;
        again = true;
        groups = record { group = g.group; asked = link.keys.asked; rest = g.rest; again = g.again } ∷ groups;
        reached = suc reached;
        steps_left = first_is;
        makes = makes;
        groups_are = (before, record { first = last.first; asked = link.keys.asked }, refl, record { asked = refl; first = first_is }, groups_are);
        round = omega (arith, round);
        rounds = (
          subst (λ o. IsRoundAfter o (suc reached) (length steps) (length (plan_steps g.rest)) (length (steps_after groups))) (sym outer_is) (omega (arith, round, counts)),
          rounds_more reached (suc reached) (length steps) groups (omega arith) (omega (arith, round, counts)) rounds,
        );
        is_reached = reached_more steps is_new reached (λ input there. let differ : Some step.Close ≡ Some (step.Input input) = sym seen ∙ there in cc) is;
      }
  again_by link before last is_new place true g outer groups reached outer_is here are makes first_is groups_are round first rounds is = record {
    left = g.group;
    again = true;
    groups = record { group = g.group; asked = link.keys.asked; rest = g.rest; again = g.again } ∷ groups;
    reached = reached;
    steps_left = first_is;
    makes = makes;
    groups_are = (before, record { first = last.first; asked = link.keys.asked }, refl, record { asked = refl; first = first_is }, groups_are);
    round = round;
    rounds = (subst (λ o. IsRoundAfter o reached (length steps) (length (plan_steps g.rest)) (length (steps_after groups))) (sym outer_is) first, rounds);
    is_reached = is;
  }

  repeats_by : (link : Linking) (open_groups before : List OpenGroup) (last : OpenGroup) (is_new : ℕ → Bool) (place : ℕ) (left : LinkInputs) (again : Bool) (groups : List EnteredGroup) (reached : ℕ)
      → AreDistinctInputs link.archives → open_groups ≡ before ++ last ∷ [] → (link.keys.asked == last.asked) ≡ false
      → slice_get steps place ≡ Some step.Close → drop place steps ≡ plan_steps left ++ steps_after groups → groups_ended files groups (inputs_made files again left link) ≡ whole
      → AreGroupsAt steps groups open_groups → IsRoundAt again reached (length steps) (length (plan_steps left)) (length (steps_after groups)) → AreRoundsAfter reached (length steps) groups → IsReached steps is_new reached
      → IsLinkAt files whole steps link (before ++ record { first = last.first; asked = link.keys.asked } ∷ []) is_new last.first
  repeats_by link open_groups before last is_new place NoInputs again [] reached distinct last_is differ here are makes groups_are round rounds is =
      let next = drop_next steps place step.Close here in absurd cc
  repeats_by link open_groups before last is_new place (Input index rest) again groups reached distinct last_is differ here are makes groups_are round rounds is =
      let next = drop_next steps place step.Close here in absurd cc
  repeats_by link open_groups before last is_new place (Group group rest) again groups reached distinct last_is differ here are makes groups_are round rounds is =
      let next = drop_next steps place step.Close here in absurd cc
  repeats_by link open_groups before last is_new place NoInputs again (g ∷ groups) reached distinct last_is differ here are makes groups_are round rounds is =
      let tops = last_same before groups_are.0 last groups_are.1 (sym last_is ∙ groups_are.2) in
      let asked : last.asked ≡ g.asked = ap (λ (o : OpenGroup). o.asked) tops.1 ∙ groups_are.3.asked in
      let differs : (link.keys.asked == g.asked) ≡ false = ap (λ a. link.keys.asked == a) (sym asked) ∙ differ in
      let settled =
      ap (λ l. groups_ended files groups (inputs_made files g.again g.rest l))
      (sym (group_more files g.group link g.asked distinct differs) ∙ sym (ap (λ l. group_settled (inputs_again files g.group) g.asked l) (made_none again link))) in
      again_by link before last is_new place again g g.again groups reached refl here are (settled ∙ makes) (ap (λ (o : OpenGroup). drop o.first steps) tops.1 ∙ groups_are.3.first)
      (subst (λ os. AreGroupsAt steps groups os) (sym tops.0) groups_are.4) round rounds.0 rounds.1 is

  pub place_repeats : (link : Linking) (open_groups before : List OpenGroup) (last : OpenGroup) (is_new : ℕ → Bool) (place asked : ℕ) → AreDistinctInputs link.archives → open_groups ≡ before ++ last ∷ []
      → asked ≡ link.keys.asked → (link.keys.asked == last.asked) ≡ false
      → slice_get steps place ≡ Some step.Close → IsLinkAt files whole steps link open_groups is_new place → IsLinkAt files whole steps link (before ++ record { first = last.first; asked = asked } ∷ []) is_new last.first
  place_repeats link open_groups before last is_new place asked distinct last_is asked_is differ here at =
      subst (λ a. IsLinkAt files whole steps link (before ++ record { first = last.first; asked = a } ∷ []) is_new last.first) (sym asked_is)
      (repeats_by link open_groups before last is_new place at.left at.again at.groups at.reached distinct last_is differ here at.steps_left at.makes at.groups_are at.round at.rounds at.is_reached)

  -- at the end of a round a group is open
  none_by : (left : LinkInputs) (groups : List EnteredGroup) (place : ℕ) → slice_get steps place ≡ Some step.Close → drop place steps ≡ plan_steps left ++ steps_after groups → AreGroupsAt steps groups [] → ⊥
  none_by NoInputs [] place here are groups_are = let next = drop_next steps place step.Close here in cc
  none_by NoInputs (g ∷ groups) place here are groups_are = none_last groups_are.0 groups_are.1 groups_are.2
  none_by (Input index rest) groups place here are groups_are = let next = drop_next steps place step.Close here in cc
  none_by (Group group rest) groups place here are groups_are = let next = drop_next steps place step.Close here in cc

  pub place_has_group : (link : Linking) (open_groups : List OpenGroup) (is_new : ℕ → Bool) (place : ℕ) → open_groups ≡ [] → slice_get steps place ≡ Some step.Close → IsLinkAt files whole steps link open_groups is_new place → ⊥
  place_has_group link open_groups is_new place none here at = none_by at.left at.groups place here at.steps_left (subst (λ os. AreGroupsAt steps at.groups os) none at.groups_are)
