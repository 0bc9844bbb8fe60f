-- A symbol's name, as far as it is read.
use Rattle.std.proofs.Common.{◌≡◌, ℕ, ◌+◌, ◌-◌, ◌<◌, ◌≤◌, min, List, [], ◌∷◌, length, drop, Ok, Err, None, refl, sym, ap, ◌∙◌, inl, inr, arith, length-take}
use Rattle.std.proofs.lemmas.Bool.{cases_lt}
use Rattle.std.proofs.lemmas.List.{take_all}
use Rattle.elf_model.specs.Prelude.{Searched, address_named, longest, lookup_cost, same, slice}
use Rattle.elf_model.specs.declared.causes.Cause.TheVariants.{NameOutside}
use Rattle.std.proofs.lemmas.Bool.Decides.{nat_tests}
use Rattle.elf_source.specs.Source.{CountedState, ReadsUpTo}
use Rattle.elf_model.proofs.Slices.{slice-slice, slice-rest}

pub lookup_most : (items : List (List ℕ × ℕ)) → (items ≡ [] → ⊥) → longest items + 1 ≤ lookup_cost Searched items
unfolding lookup_cost
lookup_most [] some = absurd (some refl)
lookup_most (item ∷ items) some = omega arith

-- a looser bound
pub ReadsUpTo-more : (a b : CountedState) (n k : ℕ) → n ≤ k → ReadsUpTo a b n → ReadsUpTo a b k
ReadsUpTo-more a b n k within reads = grind arith

-- a number of bytes at an index of a string table, or all up to its end
pub front_is : (file : List ℕ) (at size index most n : ℕ) → index < size → n ≡ min (size - index) (most + 1) → slice file (at + index) n ≡ slice (slice file at size) index (most + 1)
front_is file at size index most n inside is = elim (cases_lt (size - index) (most + 1)) [
  | inl short ↦
      let rest = slice-rest file at size index (omega (arith, inside)) in
      let long = ap length rest ∙ length-take (size - index) (drop (at + index) file) in
      ap (slice file (at + index)) (omega (arith, is, short)) ∙ (sym rest ∙ sym (take_all (most + 1) (drop index (slice file at size)) (omega (arith, long, short))))
  | inr fits ↦ ap (slice file (at + index)) (omega (arith, is, fits)) ∙ sym (slice-slice file at size index (most + 1) (omega (arith, fits)))
]

-- if there is nothing to search or to read, and past the table's end
pub no_names : (strings : List ℕ) (index : ℕ) (items : List (List ℕ × ℕ)) → items ≡ [] → address_named strings index items ≡ Ok None
unfolding address_named
no_names strings index [] none = refl
no_names strings index (item ∷ items) none = absurd (cc)

pub no_strings : (file : List ℕ) (at size index : ℕ) (items : List (List ℕ × ℕ)) → size ≡ 0 → index ≡ 0 → address_named (slice file at size) index items ≡ Ok None
unfolding address_named same
no_strings file at size index [] empty zero = refl
no_strings file at size index (item ∷ items) empty zero = grind (arith, nat_tests, length-take size (drop at file), no_strings file at size index items empty zero)

pub past_end : (file : List ℕ) (at size index : ℕ) (items : List (List ℕ × ℕ)) → (items ≡ [] → ⊥) → (size ≡ 0 → index ≡ 0 → ⊥) → size ≤ index
    → address_named (slice file at size) index items ≡ Err NameOutside
unfolding address_named same
past_end file at size index [] some not past = absurd (some refl)
past_end file at size index (item ∷ items) some not past = grind (arith, nat_tests, length-take size (drop at file))
