-- What is left of a budget when an object is opened and kept.
use Rattle.std.proofs.Common.{◌≡◌, ℕ, ◌+◌, ◌≤◌, List, inl, inr, Option, None, Some, Ok, Err, ap, subst, ◌∙◌, arith}
use Rattle.std.proofs.lemmas.List.Sums.{sum_by_push}
use Rattle.elf_source.specs.Source.{CountedState, counted}
use Rattle.elf_table.specs.declared.fault.Fault.{Fault}
use Rattle.elf_needs.specs.Budget.{AsksFiles}
use Rattle.elf_library.specs.Prelude.{KeepsOne, LookupObjectState, OpensObject, SpendsBudget, SpendsBudgetAtLeast}
use Rattle.elf_needs.specs.Prelude.{asked_of_all}

pub pays_then : (l0 l1 l2 : Option ℕ) (a b c : ℕ) → SpendsBudget l0 l1 a b → SpendsBudget l1 l2 b c → SpendsBudget l0 l2 a c
pays_then None None None a b c p q = tt
pays_then (Some l0) (Some l1) (Some l2) a b c p q = omega (arith, p, q)
pays_then None None (Some l2) a b c p q = absurd q
pays_then None (Some l1) l2 a b c p q = absurd p
pays_then (Some l0) None l2 a b c p q = absurd p
pays_then (Some l0) (Some l1) None a b c p q = absurd q

at_least : (l0 l1 : Option ℕ) (a b c d : ℕ) → SpendsBudget l0 l1 a b → d + a ≤ c + b → SpendsBudgetAtLeast l0 l1 c d
at_least None None a b c d pays within = tt
at_least (Some l0) (Some l1) a b c d pays within = omega (arith, pays, within)
at_least None (Some l1) a b c d pays within = absurd pays
at_least (Some l0) None a b c d pays within = absurd pays

-- it is closed alone
pub closed_alone : (objects : List LookupObjectState) (left : Option ℕ) {c0 c1 : ℕ} (n : ℕ) → c1 ≡ counted c0 n → c0 ≤ c1 → AsksFiles n objects objects left left c0 c1
closed_alone objects None n counts closes = record { closes = closes; grows = omega arith; pays = tt }
closed_alone objects (Some bytes) n counts closes = record { closes = closes; grows = omega arith; pays = omega (arith, counts) }

kept_or_closed : {old new : List LookupObjectState} {l0 l2 : Option ℕ} {c0 c1 c2 c3 before : ℕ} (n : ℕ) → before ≡ 0 → c1 ≡ counted c0 n → c0 ≤ c1 → (object : LookupObjectState) → c2 ≡ c1 → SpendsBudget l0 l2 before object.src.asked
    → KeepsOne old new object c2 c3 → AsksFiles n old new l0 l2 c0 c3
kept_or_closed {old} {new} {l0} {l2} {c0} {c1} {c2} {c3} {before} n none counts closes object same pays (inl is) =
    let second = is.1 in
    let more = is.2 in
    rw is.0
    (record {
      closes = omega (arith, closes, same, more);
      grows = omega arith;
      pays = at_least l0 l2 before object.src.asked (c0 + n + asked_of_all old) (c3 + asked_of_all old) pays (omega (arith, counts, same, second, none));
    })
kept_or_closed {old} {new} {l0} {l2} {c0} {c1} {c2} {c3} {before} n none counts closes object same pays (inr is) =
    let all : asked_of_all new ≡ asked_of_all old + object.src.asked = ap asked_of_all is.0 ∙ sum_by_push (λ (o : LookupObjectState). o.src.asked) old object in
    let last = is.1 in
    record {
      closes = omega (arith, closes, same, last);
      grows = omega (arith, all);
      pays = at_least l0 l2 before object.src.asked (c0 + n + asked_of_all old) (c3 + asked_of_all new) pays (omega (arith, all, counts, same, last, none));
    }

-- n bytes of a file were read before it was opened with pages
module _ {l0 l1 : Option ℕ} {c0 c1 c2 : ℕ} {file : CountedState} {headers : ℕ} (n : ℕ) (none : file.asked ≡ 0) (counts : c1 ≡ counted c0 n) (closes : c0 ≤ c1) where
  -- IT IS CLOSED AGAIN
  pub closed_asks : (objects : List LookupObjectState) {fault : Fault} → OpensObject file headers l0 l1 c1 c2 (Err fault) → AsksFiles n objects objects l0 l1 c0 c2
  closed_asks objects opens =
      let second = opens.ends.0 in
      let more = opens.ends.1 in
      record {
        closes = omega (arith, closes, more);
        grows = omega arith;
        pays = at_least l0 l1 file.asked opens.after.asked (c0 + n + asked_of_all objects) (c2 + asked_of_all objects) opens.pays (omega (arith, counts, second, none));
      }

  -- IT IS KEPT, or closed
  pub kept_asks : {old new : List LookupObjectState} {l2 : Option ℕ} {c3 : ℕ} {opened : LookupObjectState} (object : LookupObjectState) → OpensObject file headers l0 l1 c1 c2 (Ok opened)
      → SpendsBudget l1 l2 opened.src.asked object.src.asked → KeepsOne old new object c2 c3 → AsksFiles n old new l0 l2 c0 c3
  kept_asks {old} {new} {l2} {c3} {opened} object opens more keeps =
      let source : opened.src.asked ≡ opens.after.asked = ap (λ (src : CountedState). src.asked) opens.ends.0 in
      let same : c2 ≡ c1 = opens.ends.1 in
      let pays = pays_then l0 l1 l2 file.asked opens.after.asked object.src.asked opens.pays (subst (λ (m : ℕ). SpendsBudget l1 l2 m object.src.asked) source more) in
      kept_or_closed n none counts closes object same pays keeps
