-- The names of lines: those of the first line and those of the rest.
use Rattle.std.proofs.Common.{◌≡◌, ℕ, Bool, suc, ◌<◌, List, [], ◌∷◌, ◌++◌, All, cond, true, nat_lt, length, slice_index_or, refl, ap, sym, subst, ◌∙◌, append_assoc, arith}
use Rattle.std.proofs.lemmas.Bool.Decides.{nat_tests}
use Rattle.std.proofs.lemmas.List.Elements.{All-cons}
use Rattle.elf_options.specs.Prelude.{IsNoNames, IsRowName, line_names}
use Rattle.elf_options.specs.declared.names_fault.NamesFault.TheVariants.{NoNames, BadName, Memory, Read, TooLarge}
use Rattle.elf_options.specs.declared.names_fault.NamesFault.{NamesFault}

module _ (versions : Bool) where
  all_first : (name : List ℕ) (names : List (List ℕ)) → All (IsRowName versions) (name ∷ names) → All (IsRowName versions) (name ∷ [])
  all_first name names all = λ k d low. subst (λ n. IsRowName versions (slice_index_or (name ∷ []) n d)) (sym (zero_of k low)) (all 0 d (omega arith))
    where
      zero_of : (k : ℕ) → k < 1 → k ≡ 0
      zero_of k low = omega (arith, low)

  all_rest : (name : List ℕ) (names : List (List ℕ)) → All (IsRowName versions) (name ∷ names) → All (IsRowName versions) names
  all_rest name names all = λ k d low. all (suc k) d (omega (arith, low))

  -- a line that is not empty is a name
  pub is_kept : (b : ℕ) (line : List ℕ) (rest : List (List ℕ)) → line_names ((b ∷ line) ∷ rest) ≡ (b ∷ line) ∷ line_names rest
  is_kept b line rest =
      let e : nat_lt 0 (length (b ∷ line)) ≡ true = grind (arith, nat_tests) in
      ap (λ t. cond t ((b ∷ line) ∷ line_names rest) (line_names rest)) e

  -- the names of a line and of those after it
  names_split : (line : List ℕ) (rest : List (List ℕ)) → line_names (line ∷ rest) ≡ line_names (line ∷ []) ++ line_names rest
  names_split [] rest = refl
  names_split (b ∷ line) rest = is_kept b line rest ∙ ap (λ names. names ++ line_names rest) (sym (is_kept b line []))

  pub each_split : (line : List ℕ) (rest : List (List ℕ)) → All (IsRowName versions) (line_names (line ∷ [])) → All (IsRowName versions) (line_names rest)
      → All (IsRowName versions) (line_names (line ∷ rest))
  each_split [] rest first behind = behind
  each_split (b ∷ line) rest first behind =
      let one : All (IsRowName versions) ((b ∷ line) ∷ []) = subst (All (IsRowName versions)) (is_kept b line []) first in
      subst (All (IsRowName versions)) (sym (is_kept b line rest)) (All-cons (IsRowName versions) (b ∷ line) (line_names rest) (one 0 [] (omega arith)) behind)

  -- what is wrong with a line, or with those after it, is wrong with them together
  pub bad_first : (line : List ℕ) (rest : List (List ℕ)) (fault : NamesFault) → IsNoNames versions (line_names (line ∷ [])) fault → IsNoNames versions (line_names (line ∷ rest)) fault
  bad_first [] rest BadName bad = absurd (bad (λ k d low. absurd (omega (arith, low))))
  bad_first (b ∷ line) rest BadName bad = λ all.
      bad (subst (All (IsRowName versions)) (sym (is_kept b line [])) (all_first (b ∷ line) (line_names rest) (subst (All (IsRowName versions)) (is_kept b line rest) all)))
  bad_first line rest Memory bad = bad
  bad_first line rest Read bad = bad
  bad_first line rest TooLarge bad = bad
  bad_first line rest NoNames bad = bad

  pub bad_rest : (line : List ℕ) (rest : List (List ℕ)) (fault : NamesFault) → IsNoNames versions (line_names rest) fault → IsNoNames versions (line_names (line ∷ rest)) fault
  bad_rest [] rest fault bad = bad
  bad_rest (b ∷ line) rest BadName bad = λ all. bad (all_rest (b ∷ line) (line_names rest) (subst (All (IsRowName versions)) (is_kept b line rest) all))
  bad_rest (b ∷ line) rest Memory bad = bad
  bad_rest (b ∷ line) rest Read bad = bad
  bad_rest (b ∷ line) rest TooLarge bad = bad
  bad_rest (b ∷ line) rest NoNames bad = bad

  -- a line's names are appended to those that are there
  pub put_line : (line : List ℕ) (rest left old new all : List (List ℕ)) → left ≡ line ∷ rest → new ≡ old ++ line_names (line ∷ [])
      → old ++ line_names left ≡ all → new ++ line_names rest ≡ all
  put_line line rest left old new all lines put is =
      ap (λ names. names ++ line_names rest) put ∙ append_assoc old (line_names (line ∷ [])) (line_names rest) ∙ ap (λ names. old ++ names) (sym (names_split line rest))
      ∙ ap (λ ls. old ++ line_names ls) (sym lines) ∙ is
