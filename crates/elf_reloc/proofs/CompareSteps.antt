-- A symbol's name compared with one item after another.
use Rattle.std.proofs.Common.{◌≡◌, ℕ, ◌+◌, ◌-◌, ◌<◌, ◌≤◌, true, false, List, [], ◌∷◌, length, drop, get_or, drop-cons, add-one, Option, None, Some, IfSome, Result, Ok, Err, refl, sym, ap, ◌∙◌, arith}
use Rattle.std.proofs.lemmas.List.{drop_all}
use Rattle.std.proofs.lemmas.List.Sums.{sum_by-cons}
use Rattle.elf_model.specs.Prelude.{address_named, pad64, same}
use Rattle.elf_model.specs.declared.causes.Cause.{Cause}
use Rattle.elf_source.specs.Source.{CountedState, ReadsUpTo}
use Rattle.elf_source.proofs.ReadsLaws.{ReadsUpTo-to}
use Rattle.elf_layout.specs.Layouts.{items_cost}
use Rattle.elf_table.specs.NamesRead.{Refuses}
use Rattle.elf_table.specs.Prelude.{CallReads, ComparesName, IsReadFault}
use Rattle.elf_table.specs.declared.fault.Fault.{Fault}
use Rattle.elf_table.specs.declared.fault.Fault.TheVariants.{Refused, Source}
use Rattle.elf_table.proofs.LedgerLaws.{CallReads-then}

-- the items that are left begin with the one at the index
pub left_is : (items : List (List ℕ × ℕ)) (i : ℕ) (item : List ℕ × ℕ) → i < length items → item ≡ get_or items i item → drop i items ≡ item ∷ drop (i + 1) items
left_is items i item inside is =
    let begins : drop i items ≡ get_or items i item ∷ drop (i + 1) items = rw (add-one, drop-cons items i item) refl in
    begins ∙ ap (λ (first : List ℕ × ℕ). first ∷ drop (i + 1) items) (sym is)

cost_first : (item : List ℕ × ℕ) (rest : List (List ℕ × ℕ)) → items_cost (item ∷ rest) ≡ pad64 (length item.0 + 1) + items_cost rest
cost_first item rest = sum_by-cons (λ (x : List ℕ × ℕ). pad64 (length x.0 + 1)) item rest

pub left_cost : (items : List (List ℕ × ℕ)) (i : ℕ) (item : List ℕ × ℕ) (name : List ℕ) → i < length items → item ≡ get_or items i item → name ≡ item.0
    → items_cost (drop i items) ≡ pad64 (length name + 1) + items_cost (drop (i + 1) items)
left_cost items i item name inside is named =
    ap items_cost (left_is items i item inside is) ∙ (cost_first item (drop (i + 1) items) ∙ ap (λ (n : List ℕ). pad64 (length n + 1) + items_cost (drop (i + 1) items)) (sym named))

-- what was requested before leaves enough for the items that are left
room : (a b all left rest one : ℕ) → a ≤ b → b + left ≤ a + all → left ≡ one + rest → (b ≤ a + (all - left)) × ((all - left) + one ≤ all)
room a b all left rest one grows asked is = (omega arith, omega arith)

-- the cost so far, with that of the item at the index
pub reads_next :
    (a b d : CountedState) (stop : Option Fault) (all left rest one : ℕ) → ReadsUpTo a b all → b.asked + left ≤ a.asked + all → left ≡ one + rest → ReadsUpTo b d one
    → IfSome stop (IsReadFault b d one) → CallReads a d stop all
reads_next a b d stop all left rest one reads asked is next says =
    let fits = room a.asked b.asked all left rest one reads.grows asked is in
    let before : CallReads a b None (all - left) = record { reads = ReadsUpTo-to reads fits.0; says = tt } in
    CallReads-then all fits.1 before (record { reads = next; says = says })

pub asked_next : (a b d all left rest one : ℕ) → b + left ≤ a + all → left ≡ one + rest → d ≤ b + one → d + rest ≤ a + all
asked_next a b d all left rest one asked is next = omega arith

-- the result by the first item
first_found : (strings : List ℕ) (index : ℕ) (item : List ℕ × ℕ) (rest : List (List ℕ × ℕ)) → same strings index item.0 ≡ Ok true → address_named strings index (item ∷ rest) ≡ Ok (Some item.1)
unfolding address_named
first_found strings index item rest is = rw (is, address_named) refl

first_other : (strings : List ℕ) (index : ℕ) (item : List ℕ × ℕ) (rest : List (List ℕ × ℕ)) → same strings index item.0 ≡ Ok false
    → address_named strings index (item ∷ rest) ≡ address_named strings index rest
unfolding address_named
first_other strings index item rest is = rw (is, address_named) refl

first_fails : (strings : List ℕ) (index : ℕ) (item : List ℕ × ℕ) (rest : List (List ℕ × ℕ)) (cause : Cause) → same strings index item.0 ≡ Err cause
    → address_named strings index (item ∷ rest) ≡ Err cause
unfolding address_named
first_fails strings index item rest cause is = rw (is, address_named) refl

none_named : (strings : List ℕ) (index : ℕ) → address_named strings index [] ≡ Ok None
unfolding address_named
none_named strings index = refl

pub none_left : (strings : List ℕ) (index : ℕ) (items : List (List ℕ × ℕ)) (i : ℕ) (all : Result (Option ℕ) Cause) → length items ≤ i → address_named strings index (drop i items) ≡ all → all ≡ Ok None
none_left strings index items i all past left = sym left ∙ (ap (address_named strings index) (drop_all i items past) ∙ none_named strings index)

module _
    (strings : List ℕ) (index off : ℕ) (name : List ℕ) (items : List (List ℕ × ℕ)) (i : ℕ) (item : List ℕ × ℕ) (all : Result (Option ℕ) Cause)
    (inside : i < length items) (is : item ≡ get_or items i item) (named : name ≡ item.0) (at_index : off ≡ index) (left : address_named strings index (drop i items) ≡ all) where
  compares : same strings off name ≡ same strings index item.0
  compares = ap (λ (n : ℕ). same strings n name) at_index ∙ ap (same strings index) named

  begins : all ≡ address_named strings index (item ∷ drop (i + 1) items)
  begins = sym left ∙ ap (address_named strings index) (left_is items i item inside is)

  pub item_found : (address : ℕ) → address ≡ item.1 → same strings off name ≡ Ok true → all ≡ Ok (Some address)
  item_found address address_is equal =
      begins ∙ (first_found strings index item (drop (i + 1) items) (sym compares ∙ equal) ∙ ap (λ (n : ℕ). Ok (Some n)) (sym address_is))

  pub item_passed : same strings off name ≡ Ok false → address_named strings index (drop (i + 1) items) ≡ all
  item_passed equal = sym (begins ∙ first_other strings index item (drop (i + 1) items) (sym compares ∙ equal))

  -- a refusal has the cause of the result, unless it is `Budget`
  pub item_refuses : (at : ℕ) (fault : Fault) → ComparesName at (Err fault) (same strings off name) → Refuses at fault all
  item_refuses at (Refused refusal) refuses = λ check.
      let p = refuses check in
      (p.0, begins ∙ first_fails strings index item (drop (i + 1) items) refusal.cause (sym compares ∙ p.1))
  item_refuses at (Source fault offset) refuses = tt
