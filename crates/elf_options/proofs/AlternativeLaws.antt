-- A test of each alternative of a text, one after another.
use Rattle.std.proofs.Common.{◌≡◌, ◌∙◌, ℕ, Bool, true, false, List, [], ◌∷◌, refl, ap}
use Rattle.std.specs.Prelude.{◌&&◌, ◌||◌}
use Rattle.std.specs.List.{list_all, list_any}
use Rattle.elf_model.specs.Prelude.{alternatives}

any_one : (b : Bool) → (b || false) ≡ b
any_one true = refl
any_one false = refl

all_one : (b : Bool) → (b && true) ≡ b
all_one true = refl
all_one false = refl

module _ (test : List ℕ → Bool) (rest : List ℕ) where
  -- one passes
  pub any_here : (word : List ℕ) (words : List (List ℕ)) → alternatives rest ≡ word ∷ words → test word ≡ true → list_any test (alternatives rest) ≡ true
  any_here word words parts is = ap (list_any test) parts ∙ ap (λ b. b || list_any test words) is

  pub any_after : (word : List ℕ) (words : List (List ℕ)) → alternatives rest ≡ word ∷ words → test word ≡ false
      → list_any test (alternatives rest) ≡ list_any test words
  any_after word words parts is = ap (list_any test) parts ∙ ap (λ b. b || list_any test words) is

  pub any_last : alternatives rest ≡ rest ∷ [] → list_any test (alternatives rest) ≡ test rest
  any_last parts = ap (list_any test) parts ∙ any_one (test rest)

  -- one fails
  pub all_here : (word : List ℕ) (words : List (List ℕ)) → alternatives rest ≡ word ∷ words → test word ≡ false → list_all test (alternatives rest) ≡ false
  all_here word words parts is = ap (list_all test) parts ∙ ap (λ b. b && list_all test words) is

  pub all_after : (word : List ℕ) (words : List (List ℕ)) → alternatives rest ≡ word ∷ words → test word ≡ true
      → list_all test (alternatives rest) ≡ list_all test words
  all_after word words parts is = ap (list_all test) parts ∙ ap (λ b. b && list_all test words) is

  pub all_last : alternatives rest ≡ rest ∷ [] → list_all test (alternatives rest) ≡ test rest
  all_last parts = ap (list_all test) parts ∙ all_one (test rest)
