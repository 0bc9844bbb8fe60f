-- The lines of a list's numbers, one after another.
use Rattle.std.proofs.Common.{◌≡◌, ℕ, ◌+◌, ◌≤◌, List, [], ◌∷◌, ◌++◌, length, map, Option, None, Some, refl, sym, ap, subst, ◌∙◌, arith, append_assoc}
use Rattle.std.specs.List.{concat}
use Rattle.elf_source.specs.Output.{IsOutFault, OutState, SinkTakes, SinkTakesPrefix}
use Rattle.elf_source.specs.declared.faults.OutFault.{OutFault}
use Rattle.elf_source.proofs.PutsLaws.{SinkTakes-nothing, SinkTakes-then, SinkTakesPrefix-then, SinkTakesPrefix-more}
use Rattle.elf_resolve.specs.KeyChains.{ChainTable, IsListFrom, number_after}
use Rattle.elf_resolve.specs.LinkTexts.{IsListShown}

append_nil : {A : Type 0} (xs : List A) → xs ++ [] ≡ xs
append_nil [] = refl
append_nil (x ∷ xs) = ap (λ ys. x ∷ ys) (append_nil xs)

some_same : {A : Type 0} (x y : A) → ◌≡◌ {A = Option A} (Some x) (Some y) → x ≡ y
some_same x y e = cc

not_some : {A : Type 0} (x : A) → ◌≡◌ {A = Option A} None (Some x) → ⊥
not_some x e = cc

-- before the first number
pub list_begun : (chains : ChainTable) (line : ℕ → List ℕ) (numbers : List ℕ) (first : Option ℕ) (a : OutState) → IsListFrom chains first numbers → length numbers ≤ chains.numbers
    → IsListShown chains line numbers first 0 a a
list_begun chains line numbers first a follows fits = record { left = numbers; done = []; follows = follows; fits = omega (arith, fits); split = refl; takes = SinkTakes-nothing a }

-- the numbers that are left, if there is a next one
record HasNext (chains : ChainTable) (line : ℕ → List ℕ) (numbers : List ℕ) (number turns : ℕ) (a b : OutState) : Type 0 where
  rest : List ℕ
  done : List ℕ
  follows : IsListFrom chains (number_after chains number) rest
  fits : turns + 1 + length rest ≤ chains.numbers
  split : concat (map line numbers) ≡ done ++ (line number ++ concat (map line rest))
  takes : SinkTakes a b done

next_of : (chains : ChainTable) (line : ℕ → List ℕ) (numbers left done : List ℕ) (next : Option ℕ) (number turns : ℕ) (a b : OutState) → next ≡ Some number → IsListFrom chains next left
    → turns + length left ≤ chains.numbers → concat (map line numbers) ≡ done ++ concat (map line left) → SinkTakes a b done → HasNext chains line numbers number turns a b
next_of chains line numbers [] done next number turns a b is follows fits split takes = absurd (not_some number (sym follows ∙ is))
next_of chains line numbers (n ∷ left) done next number turns a b is follows fits split takes =
    let same : n ≡ number = some_same n number (sym follows.0 ∙ is) in
    record {
      rest = left;
      done = done;
      follows = subst (λ (k : ℕ). IsListFrom chains (number_after chains k) left) same follows.1;
      fits = omega (arith, fits);
      split = split ∙ ap (λ (k : ℕ). done ++ (line k ++ concat (map line left))) same;
      takes = takes;
    }

module _ (chains : ChainTable) (line : ℕ → List ℕ) (numbers : List ℕ) (next : Option ℕ) (turns : ℕ) (a b : OutState) (shown : IsListShown chains line numbers next turns a b) where
  next_in : (number : ℕ) → next ≡ Some number → HasNext chains line numbers number turns a b
  next_in number is = next_of chains line numbers shown.left shown.done next number turns a b is shown.follows shown.fits shown.split shown.takes

  -- one more
  pub list_more : (number : ℕ) (c : OutState) → next ≡ Some number → SinkTakes b c (line number) → IsListShown chains line numbers (number_after chains number) (turns + 1) a c
  list_more number c is takes =
      let has = next_in number is in
      record {
        left = has.rest;
        done = has.done ++ line number;
        follows = has.follows;
        fits = has.fits;
        split = has.split ∙ sym (append_assoc has.done (line number) (concat (map line has.rest)));
        takes = SinkTakes-then has.done (line number) has.takes takes;
      }

  -- one that can't be written
  pub list_fails : (number : ℕ) (c : OutState) (fault : OutFault) → next ≡ Some number → SinkTakesPrefix b c (line number) × IsOutFault c fault
      → SinkTakesPrefix a c (concat (map line numbers)) × IsOutFault c fault
  list_fails number c fault is puts =
      let has = next_in number is in (
        subst (λ (text : List ℕ). SinkTakesPrefix a c text) (sym has.split)
            (SinkTakesPrefix-then has.done (line number ++ concat (map line has.rest)) has.takes (SinkTakesPrefix-more (line number) (concat (map line has.rest)) puts.0)),
        puts.1,
      )

  -- no more
  none_left : (left : List ℕ) → IsListFrom chains next left → next ≡ None → left ≡ []
  none_left [] follows is = refl
  none_left (n ∷ left) follows is = absurd (not_some n (sym is ∙ follows.0))

  written : (left : List ℕ) → left ≡ [] → concat (map line numbers) ≡ shown.done ++ concat (map line left) → SinkTakes a b (concat (map line numbers))
  written left none split = subst (λ (text : List ℕ). SinkTakes a b text) (sym (split ∙ ap (λ (l : List ℕ). shown.done ++ concat (map line l)) none ∙ append_nil shown.done)) shown.takes

  pub list_ended : next ≡ None → SinkTakes a b (concat (map line numbers))
  list_ended is = written shown.left (none_left shown.left shown.follows is) shown.split

  empty_list : (left : List ℕ) → length left ≡ 0 → left ≡ []
  empty_list [] none = refl
  empty_list (n ∷ left) none = absurd (omega (arith, none))

  pub list_turned : chains.numbers ≤ turns → SinkTakes a b (concat (map line numbers))
  list_turned all = written shown.left (empty_list shown.left (omega (arith, shown.fits, all))) shown.split
