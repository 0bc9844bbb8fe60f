-- The entries of a text, by its first separator.
use Rattle.std.proofs.Common.{◌≡◌, ℕ, zero, suc, ◌<◌, Bool, true, false, List, [], ◌∷◌, ◌++◌, length, take, drop, get_or, refl, ap, sym, ◌∙◌, append_assoc, arith}
use Rattle.elf_needs.specs.Searching.{is_separator, parted}

append_nil : (xs : List ℕ) → xs ++ [] ≡ xs
append_nil [] = refl
append_nil (x ∷ xs) = ap (λ rest. x ∷ rest) (append_nil xs)

not_true : (b : Bool) → (b ≡ true → ⊥) → b ≡ false
not_true true isnt = absurd (isnt refl)
not_true false isnt = refl

module _ (separator : ℕ) where
  at_separator : (entry text : List ℕ) (b : ℕ) → is_separator separator b ≡ true → parted separator entry (b ∷ text) ≡ entry ∷ parted separator [] text
  unfolding parted
  at_separator entry text b is = rw (parted, is) refl

  at_other : (entry text : List ℕ) (b : ℕ) → is_separator separator b ≡ false → parted separator entry (b ∷ text) ≡ parted separator (entry ++ b ∷ []) text
  unfolding parted
  at_other entry text b is = rw (parted, is) refl

  at_end : (entry : List ℕ) → parted separator entry [] ≡ entry ∷ []
  unfolding parted
  at_end entry = refl

  pub split_at_sign : (entry text : List ℕ) (n : ℕ) → n < length text → is_separator separator (get_or text n 0) ≡ true
      → ((k : ℕ) → k < n → is_separator separator (get_or text k 0) ≡ true → ⊥)
      → parted separator entry text ≡ (entry ++ take n text) ∷ parted separator [] (drop (suc n) text)
  split_at_sign entry [] n below here before = absurd (omega (arith, below))
  split_at_sign entry (b ∷ text) zero below here before =
      at_separator entry text b here ∙ ap (λ first. first ∷ parted separator [] text) (sym (append_nil entry))
  split_at_sign entry (b ∷ text) (suc n) below here before =
      at_other entry text b (not_true (is_separator separator b) (before 0 (omega arith)))
      ∙ (split_at_sign (entry ++ b ∷ []) text n (omega (arith, below)) here (λ k low. before (suc k) (omega (arith, low)))
      ∙ ap (λ first. first ∷ parted separator [] (drop (suc n) text)) (append_assoc entry (b ∷ []) (take n text)))

  pub parted_whole : (entry text : List ℕ) → ((k : ℕ) → k < length text → is_separator separator (get_or text k 0) ≡ true → ⊥) → parted separator entry text ≡ (entry ++ text) ∷ []
  parted_whole entry [] none = at_end entry ∙ ap (λ first. first ∷ []) (sym (append_nil entry))
  parted_whole entry (b ∷ text) none =
      at_other entry text b (not_true (is_separator separator b) (none 0 (omega arith)))
      ∙ (parted_whole (entry ++ b ∷ []) text (λ k low. none (suc k) (omega (arith, low)))
      ∙ ap (λ first. first ∷ []) (append_assoc entry (b ∷ []) text))
