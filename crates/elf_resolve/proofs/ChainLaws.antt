-- Lists of numbers by keys, and one more number.
use Rattle.std.proofs.Common.{◌≡◌, ◌≢◌, ℕ, ◌+◌, ◌<◌, ◌≤◌, Bool, true, false, List, [], ◌∷◌, length, get_or, set, Option, None, Some, refl, sym, ap, subst, ◌∙◌, arith}
use Rattle.std.specs.Prelude.{◌==◌, if◌then◌else◌}
use Rattle.std.proofs.lemmas.Bool.{eqb-true, eqb-false, ne_eqb}
use Rattle.std.proofs.lemmas.List.{get_or-set_same, get_or-set_other}
use Rattle.elf_resolve.specs.KeyChains.{AddsNumber, AscendWithin, ChainTable, HasLists, IsListFrom, LIST_END, first_number, list_with, number_after, number_or_end}

number_shown : (n : ℕ) → n < LIST_END → number_or_end n ≡ Some n
number_shown n less = ap (λ (b : Bool). if b then None else Some n) (ne_eqb n LIST_END (λ e. omega (arith, e, less)))

-- what is linked after each number of a list is what was
kept_list : (old new : ChainTable) (number most : ℕ) → ((k : ℕ) → k ≢ number → get_or new.nexts k LIST_END ≡ get_or old.nexts k LIST_END)
    → (numbers : List ℕ) (from : ℕ) (first : Option ℕ) → number + 1 ≤ from → AscendWithin from most numbers → IsListFrom old first numbers → IsListFrom new first numbers
kept_list old new number most other [] from first below ascends list = list
kept_list old new number most other (n ∷ numbers) from first below ascends list =
    let apart : n ≢ number = omega (arith, below, ascends.0) in
    let same : number_after old n ≡ number_after new n = ap number_or_end (sym (other n apart)) in (
      list.0,
      subst (λ (next : Option ℕ). IsListFrom new next numbers) same
          (kept_list old new number most other numbers (n + 1) (number_after old n) (omega (arith, below, ascends.0)) ascends.2 list.1),
    )

pub ascends_below : (from less most : ℕ) (numbers : List ℕ) → less ≤ from → AscendWithin from most numbers → AscendWithin less most numbers
ascends_below from less most [] below ascends = tt
ascends_below from less most (n ∷ numbers) below ascends = (omega (arith, below, ascends.0), ascends.1, ascends.2)

module _ (old new : ChainTable) (key number : ℕ) (small : number < LIST_END)
    (heads_other : (k : ℕ) → k ≢ key → get_or new.heads k LIST_END ≡ get_or old.heads k LIST_END) (heads_same : get_or new.heads key LIST_END ≡ number)
    (nexts_other : (k : ℕ) → k ≢ number → get_or new.nexts k LIST_END ≡ get_or old.nexts k LIST_END) (nexts_same : get_or new.nexts number LIST_END ≡ get_or old.heads key LIST_END)
    (fits : number + 1 ≤ new.numbers) (numbers : new.numbers ≡ old.numbers) (list : ℕ → List ℕ) (has : HasLists old (number + 1) list) where
  follows_by : (k : ℕ) (is : Bool) → (k == key) ≡ is → IsListFrom new (first_number new k) (if is then number ∷ list k else list k)
  follows_by k true is =
      let at : k ≡ key = eqb-true k key is in
      let first : first_number new k ≡ Some number = ap (λ (k : ℕ). first_number new k) at ∙ ap number_or_end heads_same ∙ number_shown number small in
      let next : first_number old k ≡ number_after new number = ap (λ (k : ℕ). first_number old k) at ∙ ap number_or_end (sym nexts_same) in (
        first,
        subst (λ (n : Option ℕ). IsListFrom new n (list k)) next
            (kept_list old new number old.numbers nexts_other (list k) (number + 1) (first_number old k) (omega arith) (has.ascend k) (has.follow k)),
      )
  follows_by k false is =
      let apart : k ≢ key = eqb-false k key is in
      subst (λ (n : Option ℕ). IsListFrom new n (list k)) (ap number_or_end (sym (heads_other k apart)))
      (kept_list old new number old.numbers nexts_other (list k) (number + 1) (first_number old k) (omega arith) (has.ascend k) (has.follow k))

  ascends_by : (k : ℕ) (is : Bool) → AscendWithin number old.numbers (if is then number ∷ list k else list k)
  ascends_by k true = (omega arith, omega (arith, fits, numbers), has.ascend k)
  ascends_by k false = ascends_below (number + 1) number old.numbers (list k) (omega arith) (has.ascend k)

  pub lists_added : HasLists new number (list_with list key number)
  lists_added = record {
    follow = λ k. follows_by k (k == key) refl;
    ascend = λ k. subst (λ (most : ℕ). AscendWithin number most (list_with list key number k)) (sym numbers) (ascends_by k (k == key));
  }

-- A NUMBER ADDED, by tables that are made longer by ends
pub number_added : (old new : ChainTable) (heads nexts : List ℕ) (key number : ℕ) → number < LIST_END → new.keys ≡ old.keys → new.numbers ≡ old.numbers
    → ((k : ℕ) → get_or heads k LIST_END ≡ get_or old.heads k LIST_END) → key < length heads
    → ((k : ℕ) → get_or nexts k LIST_END ≡ get_or old.nexts k LIST_END) → number < length nexts
    → new.heads ≡ set heads key number → new.nexts ≡ set nexts number (get_or heads key LIST_END) → AddsNumber old new key number
number_added old new heads nexts key number small keys numbers heads_are key_in nexts_are number_in heads_new nexts_new = record {
  keys = keys;
  numbers = numbers;
  lists = λ list key_fits fits ends has. lists_added old new key number small
      (λ k apart. ap (λ (l : List ℕ). get_or l k LIST_END) heads_new ∙ get_or-set_other heads key k number LIST_END apart ∙ heads_are k)
      (ap (λ (l : List ℕ). get_or l key LIST_END) heads_new ∙ get_or-set_same heads key number LIST_END key_in)
      (λ k apart. ap (λ (l : List ℕ). get_or l k LIST_END) nexts_new ∙ get_or-set_other nexts number k (get_or heads key LIST_END) LIST_END apart ∙ nexts_are k)
      (ap (λ (l : List ℕ). get_or l number LIST_END) nexts_new ∙ get_or-set_same nexts number (get_or heads key LIST_END) LIST_END number_in ∙ heads_are key)
      (omega (arith, fits, numbers))
      numbers
      list
      has;
}

-- a number that is not added, since there is no room
pub not_added : (old : ChainTable) (key number : ℕ) → (key + 1 ≤ old.keys → number + 1 ≤ old.numbers → old.numbers ≤ LIST_END → ⊥) → AddsNumber old old key number
not_added old key number full = record { keys = refl; numbers = refl; lists = λ list key_fits fits ends has. absurd (full key_fits fits ends) }
