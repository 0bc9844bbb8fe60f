-- How an argument is split, and which number digits represent.
use Rattle.std.proofs.Common.{◌≡◌, ◌≢◌, ℕ, ◌+◌, ◌^◌, ◌<◌, ◌≤◌, ◌==◌, List, [], ◌∷◌, ◌++◌, length, get_or, take, drop, Option, None, Some, Result, refl, ap, sym, subst, ◌∙◌, arith, length-append, take-append-drop}
use Rattle.std.specs.Result.{OkIff, result_ok}
use Rattle.std.specs.Prelude.{Bool, Ok, Err, All, IfSome, IsNone, MatchBool, MatchOption, true, false}
use Rattle.std.specs.Borrow.{Bor}
use Rattle.std.specs.Str.Parse.{AllDigits, IsNumeral, ParsesUnsigned, digits_value}
use Rattle.std.specs.Str.{NoCharPasses}
use Rattle.std.specs.Str.Pattern.{FindsCharPrefix, HasPrefixMatch, RFindsChar}
use Rattle.std.proofs.lemmas.Int.Digits.{digits_value-lt}
use Rattle.std.proofs.Math.Nat.{pow-le-pow_right}
use Rattle.std.proofs.lemmas.List.{get_or_default}
use Rattle.std.proofs.lemmas.Str.Parse.{without_leading_plus_none}
use Rattle.std.proofs.lemmas.Str.Pattern.{NoCharPasses-char, drop_at_char, starts_char}
use Rattle.elf_layout.specs.Prelude.{EQUALS, IsAddress, IsItemOf, IsSplitAtEquals, ParsesItem, item_address}
use Rattle.elf_layout.specs.declared.layout.Item.TheVariants.{Define, Entry, Section, Table, Thread}
use Rattle.elf_layout.specs.declared.layout.Item.{Item}

-- the clause of `rsplit_once` at `=`
abbrev SplitsAtLast : List ℕ → Option (Bor (List ℕ) × Bor (List ℕ)) → Type 0
SplitsAtLast word r = MatchOption r (RFindsChar EQUALS word None) (λ x. (i : ℕ) × (j : ℕ) × RFindsChar EQUALS word (Some (i, j)) × (x.0.now ≡ take i word)
    × (x.1.now ≡ drop j word) × (i ≤ j) × (length x.0.now ≡ i) × (length x.1.now + j ≡ length word))

lacks : (text : List ℕ) → NoCharPasses (λ d. d == EQUALS) text → All (λ byte. byte ≢ EQUALS) text
lacks text none k d l e = NoCharPasses-char EQUALS text k none (omega arith) l (get_or_default text k 0 d l ∙ e)

parted_last : (word : List ℕ) (x : Bor (List ℕ) × Bor (List ℕ)) → SplitsAtLast word (Some x) → IsSplitAtEquals word x.0.now x.1.now
parted_last word x h = (
  sym (take-append-drop h.0 word) ∙ (λ k. sym h.3 k ++ (drop_at_char EQUALS word h.0 h.1 h.2.1 (omega arith) ∙ ap (λ l. EQUALS ∷ l) (sym h.4)) k),
  lacks x.1.now (subst (NoCharPasses (λ d. d == EQUALS)) (sym h.4) h.2.0),
)

at_seam : (front back : List ℕ) (b d : ℕ) → get_or (front ++ b ∷ back) (length front) d ≡ b
at_seam [] back b d = refl
at_seam (c ∷ front) back b d = at_seam front back b d

not_parted : (word key text : List ℕ) → NoCharPasses (λ d. d == EQUALS) word → IsSplitAtEquals word key text → ⊥
not_parted word key text none parted =
    NoCharPasses-char EQUALS word (length key) none (omega arith) (omega (arith, ap length parted.0, length-append key (EQUALS ∷ text)))
    (ap (λ w. get_or w (length key) 0) parted.0 ∙ at_seam key text EQUALS 0)

head_same : (a b : ℕ) (xs ys : List ℕ) → a ∷ xs ≡ b ∷ ys → a ≡ b
head_same a b xs ys e = ap (λ l. get_or l 0 0) e

tail_same : (a b : ℕ) (xs ys : List ℕ) → a ∷ xs ≡ b ∷ ys → xs ≡ ys
tail_same a b xs ys e = ap (drop 1) e

no_more : (b key text : List ℕ) → All (λ byte. byte ≢ EQUALS) b → b ≡ key ++ EQUALS ∷ text → ⊥
no_more b key text none e =
    none (length key) 0 (omega (arith, ap length e, length-append key (EQUALS ∷ text))) (ap (λ w. get_or w (length key) 0) e ∙ at_seam key text EQUALS 0)

same_parts : (a b key text : List ℕ) → a ++ EQUALS ∷ b ≡ key ++ EQUALS ∷ text → All (λ byte. byte ≢ EQUALS) b → All (λ byte. byte ≢ EQUALS) text
    → (a ≡ key) × (b ≡ text)
same_parts [] b [] text e p q = (refl, tail_same EQUALS EQUALS b text e)
same_parts [] b (y ∷ key) text e p q = absurd (no_more b key text p (tail_same EQUALS y b (key ++ EQUALS ∷ text) e))
same_parts (x ∷ a) b [] text e p q = absurd (no_more text a b q (sym (tail_same x EQUALS (a ++ EQUALS ∷ b) text e)))
same_parts (x ∷ a) b (y ∷ key) text e p q =
    let rest = same_parts a b key text (tail_same x y (a ++ EQUALS ∷ b) (key ++ EQUALS ∷ text) e) p q in
    ((λ k. head_same x y (a ++ EQUALS ∷ b) (key ++ EQUALS ∷ text) e k ∷ rest.0 k), rest.1)

-- an argument is split in one way
parted_once : (word a b key text : List ℕ) → IsSplitAtEquals word a b → IsSplitAtEquals word key text → (a ≡ key) × (b ≡ text)
parted_once word a b key text one other = same_parts a b key text (sym one.0 ∙ other.0) one.1 other.1

true_is_not_false : true ≡ false → ⊥
true_is_not_false e = cc

pub split_at_sign : (word : List ℕ) (r : Option (Bor (List ℕ) × Bor (List ℕ))) → SplitsAtLast word r → IfSome r (λ x. IsSplitAtEquals word x.0.now x.1.now)
split_at_sign word None h = tt
split_at_sign word (Some x) h = parted_last word x h

pub parted_nowhere : (word : List ℕ) (r : Option (Bor (List ℕ) × Bor (List ℕ))) → SplitsAtLast word r → IsNone r → (key text : List ℕ) → IsSplitAtEquals word key text → ⊥
parted_nowhere word None h none key text parted = not_parted word key text h parted
parted_nowhere word (Some x) h none key text parted = absurd (true_is_not_false none)

-- digits of a number that fits a machine word are read unchanged
plain : {E : Type 0} (radix : ℕ) (digits : List ℕ) (r : Result ℕ E) → get_or digits 0 0 ≢ 43 → ParsesUnsigned 64 radix digits r
    → OkIff r (IsNumeral radix digits × (digits_value radix digits < 2 ^ 64)) (digits_value radix digits)
plain radix digits r first h =
    subst (λ l. OkIff r (IsNumeral radix l × (digits_value radix l < 2 ^ 64)) (digits_value radix l)) (without_leading_plus_none digits first) h

few : (radix most : ℕ) (digits : List ℕ) → 2 ≤ radix → radix ^ most ≤ 2 ^ 64 → length digits ≤ most → AllDigits radix digits → digits_value radix digits < 2 ^ 64
few radix most digits some fits short all =
    omega (arith, digits_value-lt radix digits all, pow-le-pow_right {n = radix} (omega arith) short)

pub unread : {E : Type 0} (radix most : ℕ) (digits : List ℕ) (r : Result ℕ E) → (2 ≤ radix) × (radix ≤ 36) × (radix ^ most ≤ 2 ^ 64) → get_or digits 0 0 ≢ 43
    → ParsesUnsigned 64 radix digits r → IsNone (result_ok r) → IsNumeral radix digits → length digits ≤ most → ⊥
unread radix most digits (Ok x) needs first h none numeral short = absurd (true_is_not_false none)
unread radix most digits (Err e) needs first h none numeral short =
    plain radix digits (Err e) first h (numeral, few radix most digits needs.0 needs.2 short numeral.1)

-- a text that does not begin with a plus
pub no_plus : (digits : List ℕ) (r : Bool) → MatchBool r (HasPrefixMatch (FindsCharPrefix 43) digits) (FindsCharPrefix 43 digits None) → r ≡ false → get_or digits 0 0 ≢ 43
no_plus digits r h other plus = true_is_not_false (sym ((starts_char 43 digits r h (omega arith) (omega arith)).1 plus) ∙ other)

-- the item of an argument that is split like this
pub spelled_so : (word key text : List ℕ) → IsSplitAtEquals word key text → (item : Item) → ParsesItem word item → IsItemOf key item × IsAddress text (item_address item)
spelled_so word key text parted item spells =
    let same = parted_once word spells.key spells.text key text spells.parted parted in
    (subst (λ k. IsItemOf k item) same.0 spells.is_of, subst (λ t. IsAddress t (item_address item)) same.1 spells.address)

-- two items are of one kind, and have one index or name and one address
abbrev pub SameItem : Item → Item → Type 0
SameItem (Section i a) (Section j b) = (i ≡ j) × (a ≡ b)
SameItem (Define n a) (Define m b) = (n.now ≡ m.now) × (a ≡ b)
SameItem (Entry n a) (Entry m b) = (n.now ≡ m.now) × (a ≡ b)
SameItem (Table n a) (Table m b) = (n.now ≡ m.now) × (a ≡ b)
SameItem (Thread n a) (Thread m b) = (n.now ≡ m.now) × (a ≡ b)
SameItem _ _ = ⊥

one_head : (key : List ℕ) (a b : ℕ) (xs ys : List ℕ) → key ≡ a ∷ xs → key ≡ b ∷ ys → a ≡ b
one_head key a b xs ys e f = ap (λ l. get_or l 0 0) (sym e ∙ f)

of_one_key : (key : List ℕ) (x y : Item) → IsItemOf key x → IsItemOf key y → item_address x ≡ item_address y → SameItem x y
of_one_key key (Section i a) (Section j b) (d, e, n) (f, g, m) same =
    (n.0.2 ∙ ap (λ k. digits_value 10 (drop 3 k)) (sym e ∙ g) ∙ sym m.0.2, same)
of_one_key key (Section i a) (Define m b) (d, e, n) (g, p) same = absurd (omega (arith, one_head key 97 100 _ _ e g))
of_one_key key (Section i a) (Entry m b) (d, e, n) (g, p) same = absurd (omega (arith, one_head key 97 112 _ _ e g))
of_one_key key (Section i a) (Table m b) (d, e, n) (g, p) same = absurd (omega (arith, one_head key 97 103 _ _ e g))
of_one_key key (Section i a) (Thread m b) (d, e, n) (g, p) same = absurd (omega (arith, one_head key 97 116 _ _ e g))
of_one_key key (Define n a) (Section j b) (e, o) (f, g, m) same = absurd (omega (arith, one_head key 100 97 _ _ e g))
of_one_key key (Define n a) (Define m b) (e, o) (g, p) same = (ap (drop 4) (sym e ∙ g), same)
of_one_key key (Define n a) (Entry m b) (e, o) (g, p) same = absurd (omega (arith, one_head key 100 112 _ _ e g))
of_one_key key (Define n a) (Table m b) (e, o) (g, p) same = absurd (omega (arith, one_head key 100 103 _ _ e g))
of_one_key key (Define n a) (Thread m b) (e, o) (g, p) same = absurd (omega (arith, one_head key 100 116 _ _ e g))
of_one_key key (Entry n a) (Section j b) (e, o) (f, g, m) same = absurd (omega (arith, one_head key 112 97 _ _ e g))
of_one_key key (Entry n a) (Define m b) (e, o) (g, p) same = absurd (omega (arith, one_head key 112 100 _ _ e g))
of_one_key key (Entry n a) (Entry m b) (e, o) (g, p) same = (ap (drop 4) (sym e ∙ g), same)
of_one_key key (Entry n a) (Table m b) (e, o) (g, p) same = absurd (omega (arith, one_head key 112 103 _ _ e g))
of_one_key key (Entry n a) (Thread m b) (e, o) (g, p) same = absurd (omega (arith, one_head key 112 116 _ _ e g))
of_one_key key (Table n a) (Section j b) (e, o) (f, g, m) same = absurd (omega (arith, one_head key 103 97 _ _ e g))
of_one_key key (Table n a) (Define m b) (e, o) (g, p) same = absurd (omega (arith, one_head key 103 100 _ _ e g))
of_one_key key (Table n a) (Entry m b) (e, o) (g, p) same = absurd (omega (arith, one_head key 103 112 _ _ e g))
of_one_key key (Table n a) (Table m b) (e, o) (g, p) same = (ap (drop 4) (sym e ∙ g), same)
of_one_key key (Table n a) (Thread m b) (e, o) (g, p) same = absurd (omega (arith, one_head key 103 116 _ _ e g))
of_one_key key (Thread n a) (Section j b) (e, o) (f, g, m) same = absurd (omega (arith, one_head key 116 97 _ _ e g))
of_one_key key (Thread n a) (Define m b) (e, o) (g, p) same = absurd (omega (arith, one_head key 116 100 _ _ e g))
of_one_key key (Thread n a) (Entry m b) (e, o) (g, p) same = absurd (omega (arith, one_head key 116 112 _ _ e g))
of_one_key key (Thread n a) (Table m b) (e, o) (g, p) same = absurd (omega (arith, one_head key 116 103 _ _ e g))
of_one_key key (Thread n a) (Thread m b) (e, o) (g, p) same = (ap (drop 6) (sym e ∙ g), same)

one_address : (text : List ℕ) (a b : ℕ) → IsAddress text a → IsAddress text b → a ≡ b
one_address text a b (d, e, n) (f, g, m) = n.2 ∙ ap (λ t. digits_value 16 (drop 2 t)) (sym e ∙ g) ∙ sym m.2

-- an argument is one item
pub one_item : (word : List ℕ) (x y : Item) → ParsesItem word x → ParsesItem word y → SameItem x y
one_item word x y one other =
    let so = spelled_so word one.key one.text one.parted y other in
    of_one_key one.key x y one.is_of so.0 (one_address one.text (item_address x) (item_address y) one.address so.1)
