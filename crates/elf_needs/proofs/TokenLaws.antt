-- A text with its tokens replaced, starting at an index.
use Rattle.std.proofs.Common.{◌≡◌, ℕ, zero, suc, ◌+◌, ◌<◌, ◌≤◌, ◌==◌, true, false, List, [], ◌∷◌, ◌++◌, length, length-append, drop, drop-cons, drop-drop, get_or, None, Some, refl, ap, sym, ◌∙◌, append_assoc, add-one, arith}
use Rattle.std.proofs.lemmas.Bool.Decides.{nat_tests}
use Rattle.std.proofs.Math.ListN.{drop_of_length-le}
use Rattle.elf_needs.specs.Prelude.{DOLLAR, MOST_PATH_BYTES, PutsText, Token, expanded, token_at}

-- what was written so far, with what is left, is what is wanted
abbrev pub IsWalkAlive : (old now found rest : List ℕ) → Type 0
IsWalkAlive old now found rest = old ++ found ≡ now ++ rest

append_nil : (xs : List ℕ) → xs ++ [] ≡ xs
append_nil [] = refl
append_nil (x ∷ xs) = ap (λ rest. x ∷ rest) (append_nil xs)

some_same : {x y : List ℕ} → Some x ≡ Some y → x ≡ y
some_same e = cc e

goes_end : (old now found : List ℕ) → IsWalkAlive old now found [] → PutsText old now (Some found) true
goes_end old now found goes = (found, refl, sym (goes ∙ append_nil now))

goes_short : (old now new found rest : List ℕ) → IsWalkAlive old now found rest → MOST_PATH_BYTES < length now + length rest → PutsText old new (Some found) false
goes_short old now new found rest goes long text is =
    let lengths : length old + length found ≡ length now + length rest = sym (length-append old found) ∙ (ap length goes ∙ length-append now rest) in
    rw (← some_same is) (omega (arith, lengths, long))

-- the first bytes are skipped
skipped : (origin : List ℕ) (k : ℕ) (text : List ℕ) → expanded origin k text ≡ expanded origin 0 (drop k text)
unfolding expanded
skipped origin zero [] = refl
skipped origin (suc k) [] = refl
skipped origin zero (b ∷ text) = refl
skipped origin (suc k) (b ∷ text) = skipped origin k text

by_byte : (origin : List ℕ) (b : ℕ) (text : List ℕ) → token_at origin (b ∷ text) ≡ None → expanded origin 0 (b ∷ text) ≡ b ∷ expanded origin 0 text
unfolding expanded
by_byte origin b text is = rw (expanded, is) refl

by_token : (origin : List ℕ) (b : ℕ) (text : List ℕ) (token : Token) → token_at origin (b ∷ text) ≡ Some token
    → expanded origin 0 (b ∷ text) ≡ token.value ++ expanded origin token.size text
unfolding expanded
by_token origin b text token is = rw (expanded, is) refl

-- at a byte that begins no token
pub at_byte : (origin text : List ℕ) (at : ℕ) → at < length text → token_at origin (drop at text) ≡ None
    → expanded origin 0 (drop at text) ≡ (get_or text at 0 ∷ []) ++ expanded origin 0 (drop (at + 1) text)
at_byte origin text at below none =
    let first = drop-cons text at 0 below in
    ap (expanded origin 0) first
    ∙ (by_byte origin (get_or text at 0) (drop (suc at) text) (ap (token_at origin) (sym first) ∙ none)
    ∙ ap (λ n. get_or text at 0 ∷ expanded origin 0 (drop n text)) (sym (add-one at)))

-- at a token
pub at_token : (origin text : List ℕ) (at : ℕ) (token : Token) → at < length text → token_at origin (drop at text) ≡ Some token
    → expanded origin 0 (drop at text) ≡ token.value ++ expanded origin 0 (drop (at + (1 + token.size)) text)
at_token origin text at token below some =
    let first = drop-cons text at 0 below in
    ap (expanded origin 0) first
    ∙ (by_token origin (get_or text at 0) (drop (suc at) text) token (ap (token_at origin) (sym first) ∙ some)
    ∙ ap (λ more. token.value ++ more) (ap (λ n. expanded origin token.size (drop n text)) (sym (add-one at)) ∙ (skipped origin token.size (drop (at + 1) text) ∙ ap (expanded origin 0) (both at token.size))))
  where
    both : (at size : ℕ) → drop size (drop (at + 1) text) ≡ drop (at + (1 + size)) text
    both at size = drop-drop size (at + 1) text ∙ ap (λ n. drop n text) (omega arith)

-- after more was written, and if it does not fit
pub goes_put : (old now new more found rest left : List ℕ) → IsWalkAlive old now found rest → rest ≡ more ++ left → PutsText now new (Some more) true
    → IsWalkAlive old new found left
goes_put old now new more found rest left goes is (text, same, put) =
    let e : new ≡ now ++ more = put ∙ ap (λ t. now ++ t) (sym (some_same same)) in
    goes ∙ (ap (λ l. now ++ l) is ∙ (sym (append_assoc now more left) ∙ ap (λ l. l ++ left) (sym e)))

pub short_put : (old now new end more found rest left : List ℕ) → IsWalkAlive old now found rest → rest ≡ more ++ left → PutsText now new (Some more) false
    → PutsText old end (Some found) false
short_put old now new end more found rest left goes is long =
    let l = long more refl in
    let n : length rest ≡ length more + length left = ap length is ∙ length-append more left in
    goes_short old now end found rest goes (omega (arith, l, n))

-- nothing is left
nothing : (origin : List ℕ) → expanded origin 0 [] ≡ []
unfolding expanded
nothing origin = refl

pub goes_all : (origin old now text : List ℕ) (at : ℕ) (found : List ℕ) → length text ≤ at → IsWalkAlive old now found (expanded origin 0 (drop at text)) → PutsText old now (Some found) true
goes_all origin old now text at found all goes =
    goes_end old now found (goes ∙ ap (λ more. now ++ more) (ap (expanded origin 0) (drop_of_length-le text all) ∙ nothing origin))

-- a text without a `$` has no token
by_none : (origin : List ℕ) (b : ℕ) (text : List ℕ) → (b ≡ DOLLAR → ⊥) → token_at origin (b ∷ text) ≡ None
unfolding token_at
by_none origin b text other =
    let e : (b == DOLLAR) ≡ false = grind (arith, nat_tests, other) in
    rw (token_at, e) refl

pub without_tokens : (origin text : List ℕ) → ((k : ℕ) → k < length text → get_or text k 0 ≡ DOLLAR → ⊥) → text ≡ expanded origin 0 text
without_tokens origin [] none = sym (nothing origin)
without_tokens origin (b ∷ text) none =
    ap (λ rest. b ∷ rest) (without_tokens origin text (λ k low. none (suc k) (omega (arith, low))))
    ∙ sym (by_byte origin b text (by_none origin b text (none 0 (omega arith))))

pub test_dollar : (b : ℕ) → b ≡ DOLLAR → (b == DOLLAR) ≡ true
test_dollar b is = grind (arith, nat_tests)
