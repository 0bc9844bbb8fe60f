-- The words of flags, one after another.
use Rattle.std.proofs.Common.{◌≡◌, ◌==◌, ℕ, suc, ◌-◌, ◌/◌, ◌%◌, ◌<◌, ◌≤◌, ◌&&◌, not, nat_le, if◌then◌else◌, Bool, true, false, List, [], ◌∷◌, ◌++◌, length, take, drop, get_or, map, refl, sym, ap, ◌∙◌, arith, append_assoc, append-nil}
use Rattle.std.proofs.lemmas.Bool.Decides.{nat_tests}
use Rattle.std.proofs.lemmas.List.{take_all}
use Rattle.std.specs.Borrow.{Bor}
use Rattle.std.specs.Prelude.{codes}
use Rattle.elf_model.specs.Prelude.{separator, short_hex, words_from}
use Rattle.elf_format.specs.Flags.{are_short_words, texts}

-- the words of the bits from one on: its own, and those after it
pub words_next : (between : List ℕ) (others : ℕ) (is_first : Bool) (word : List ℕ) (words : List (List ℕ)) (n : ℕ)
    → words_from between others is_first (word ∷ words) n
    ≡ (if n % 2 == 1 then separator between is_first ++ word else []) ++ words_from between others (is_first && not (n % 2 == 1)) words (n / 2)
unfolding words_from
words_next between others is_first word words n = by (n % 2 == 1) is_first
  where
    by : (is_set is_first : Bool)
        → (if is_set then separator between is_first ++ word ++ words_from between others false words (n / 2) else words_from between others is_first words (n / 2))
        ≡ (if is_set then separator between is_first ++ word else []) ++ words_from between others (is_first && not is_set) words (n / 2)
    by true true = refl
    by true false = refl
    by false true = refl
    by false false = refl

all_but_one : (word : Bor (List ℕ)) (words : List (Bor (List ℕ))) → take (length (word ∷ words) - 1) words ≡ words
all_but_one word words =
    let most : length (word ∷ words) - 1 ≡ length words = omega arith in rw most (take_all (length words) words (omega arith))

-- the word of a bit was appended, if it is set
pub word_put : (other : Bor (List ℕ)) (words : List (Bor (List ℕ))) (between : List ℕ) (others : ℕ) (is_first next : Bool) (n : ℕ) (line items whole word : List ℕ)
    → 1 ≤ length words → word ≡ (get_or words 0 other).now → items ≡ line ++ (if n % 2 == 1 then separator between is_first ++ word else []) → next ≡ (is_first && not (n % 2 == 1))
    → line ++ words_from between others is_first (texts words) n ≡ whole
    → items ++ words_from between others next (texts (take (length words - 1) (drop 1 words))) (n / 2) ≡ whole
word_put other [] between others is_first next n line items whole word some is put follows left = absurd (omega arith)
word_put other (first ∷ words) between others is_first next n line items whole word some is put follows left =
    let here : List ℕ = if n % 2 == 1 then separator between is_first ++ first.now else [] in
    let later : List ℕ = words_from between others (is_first && not (n % 2 == 1)) (texts words) (n / 2) in
    let made : items ≡ line ++ here = rw is at put in
    rw (all_but_one first words, follows, made, append_assoc line here later)
    (ap (λ (xs : List ℕ). line ++ xs) (sym (words_next between others is_first first.now (texts words) n)) ∙ left)

both : (x y : Bool) → (x && y) ≡ true → (x ≡ true) × (y ≡ true)
both true true is = (refl, refl)
both true false is = cc
both false y is = cc

-- the words after the first have no more bytes than all, and neither has the first
pub short_rest : (most : ℕ) (words : List (Bor (List ℕ))) → 1 ≤ length words → are_short_words most (texts words) ≡ true
    → are_short_words most (texts (take (length words - 1) (drop 1 words))) ≡ true
short_rest most [] some short = absurd (omega arith)
short_rest most (first ∷ words) some short =
    let split = both (nat_le (length first.now) most) (are_short_words most (texts words)) short in rw (all_but_one first words) split.1

pub short_first : (other : Bor (List ℕ)) (most : ℕ) (words : List (Bor (List ℕ))) (word : List ℕ) → 1 ≤ length words → word ≡ (get_or words 0 other).now → are_short_words most (texts words) ≡ true → length word ≤ most
short_first other most [] word some is short = absurd (omega arith)
short_first other most (first ∷ words) word some is short =
    let split = both (nat_le (length first.now) most) (are_short_words most (texts words)) short in
    let fits : nat_le (length first.now) most ≡ true = split.0 in
    let h : length first.now ≤ most = grind (arith, nat_tests) in
    let here : word ≡ first.now = is in
    rw here h

-- there are as many texts as words
pub texts_length : (words : List (Bor (List ℕ))) → length (texts words) ≡ length words
texts_length [] = refl
texts_length (word ∷ words) = ap suc (texts_length words)

-- no words are left: the bits without a word
pub words_done : (words : List (Bor (List ℕ))) (between : List ℕ) (others : ℕ) (is_first : Bool) (n : ℕ) (line items whole : List ℕ)
    → length words < 1 → items ≡ line ++ (if others == 0 then [] else separator between is_first ++ codes "0x" ++ short_hex others)
    → line ++ words_from between others is_first (texts words) n ≡ whole → items ≡ whole
unfolding words_from
words_done [] between others is_first n line items whole none put left = put ∙ left
words_done (word ∷ words) between others is_first n line items whole none put left = absurd (omega arith)
