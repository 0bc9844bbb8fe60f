-- The lines of a text, byte by byte.
use Rattle.std.proofs.Common.{◌≡◌, ◌≢◌, ℕ, ◌+◌, ◌-◌, ◌<◌, ◌≤◌, List, [], ◌++◌, length, get_or, take, Option, None, Some, Result, Ok, Err, append-nil, append_assoc, ap₂, refl, sym, ap, subst, ◌∙◌, arith, inl, inr, length-append, length-take}
use Rattle.std.proofs.lemmas.Bool.{cases_lt}
use Rattle.std.proofs.lemmas.List.{get_or-append-add, get_or_append_left, take-append-le, take-take}
use Rattle.std.proofs.Math.Seq.{take-append-add}
use Rattle.std.specs.Io.KnownBytes.{Consumes, IsAtEnd, ReadConsumes}
use Rattle.elf_layout.specs.Texts.{IsOneLine, IsLineStart, HasShortLines, IsWithinLine, IsCutBefore, EndsLines}

-- texts that have the same bytes before a position
module _ (text other : List ℕ) (end : ℕ) (same : (k : ℕ) → k < end → get_or other k 0 ≡ get_or text k 0) where
  one_as : (from to : ℕ) → to ≤ end → IsOneLine text from to → IsOneLine other from to
  one_as from to inside one k low high e = one k low high (sym (same k (omega (arith, high, inside))) ∙ e)

  one_back : (from to : ℕ) → to ≤ end → IsOneLine other from to → IsOneLine text from to
  one_back from to inside one k low high e = one k low high (same k (omega (arith, high, inside)) ∙ e)

  starts_as : (at : ℕ) → at ≤ end → IsLineStart text at → IsLineStart other at
  starts_as at inside starts some = same (at - 1) (omega (arith, some, inside)) ∙ starts some

  pub short_as : HasShortLines text end → HasShortLines other end
  short_as short from to up inside one = short from to up inside (one_back from to inside one)

  pub within_as : (count : ℕ) → IsWithinLine text end count → IsWithinLine other end count
  within_as count w = record {
    within = w.within;
    starts = starts_as (end - count) (omega (arith, w.within)) w.starts;
    one = one_as (end - count) end (omega arith) w.one;
  }

-- one byte more
pub within_newline : (text : List ℕ) (at : ℕ) → get_or text at 0 ≡ 10 → IsWithinLine text (at + 1) 0
within_newline text at new = record {
  within = omega arith;
  starts = λ some. let e : at + 1 - 0 - 1 ≡ at = omega arith in ap (λ n. get_or text n 0) e ∙ new;
  one = λ k low high. absurd (omega (arith, low, high));
}

pub within_more : (text : List ℕ) (at count : ℕ) → get_or text at 0 ≢ 10 → IsWithinLine text at count → IsWithinLine text (at + 1) (count + 1)
within_more text at count other w = record {
  within = omega (arith, w.within);
  starts = let e : at - count ≡ at + 1 - (count + 1) = omega arith in subst (IsLineStart text) e w.starts;
  one = λ k low high. elim (cases_lt k at) [
    | inl before ↦ w.one k (omega (arith, low, w.within)) before
    | inr here ↦ let e : at ≡ k = omega (arith, here, high) in subst (λ n. get_or text n 0 ≢ 10) e other
  ];
}

pub short_newline : (text : List ℕ) (at : ℕ) → get_or text at 0 ≡ 10 → HasShortLines text at → HasShortLines text (at + 1)
short_newline text at new short from to up inside one = elim (cases_lt at to) [
  | inl last ↦ elim (cases_lt at from) [
    | inl behind ↦ omega (arith, behind, inside)
    | inr over ↦ absurd (one at over last new)
  ]
  | inr before ↦ short from to up before one
]

pub short_more : (text : List ℕ) (at count : ℕ) → count < 300 → IsWithinLine text at count → HasShortLines text at → HasShortLines text (at + 1)
short_more text at count few w short from to up inside one = elim (cases_lt at to) [
  | inl last ↦ elim (cases_lt from (at - count)) [
    | inl over ↦ absurd (one (at - count - 1) (omega (arith, over)) (omega (arith, over, last)) (w.starts (omega (arith, over))))
    | inr near ↦ omega (arith, near, inside, few, w.within)
  ]
  | inr before ↦ short from to up before one
]

-- a piece after a text
pub behind_text : (before piece : List ℕ) (k : ℕ) → k < length before → get_or (before ++ piece) k 0 ≡ get_or before k 0
behind_text before piece k below = get_or_append_left before piece 0 k below

pub begun : (before piece : List ℕ) (count : ℕ) → IsWithinLine before (length before) count → IsWithinLine (before ++ piece) (length before + 0) count
begun before piece count w =
    let e : length before ≡ length before + 0 = omega arith in
    subst (λ n. IsWithinLine (before ++ piece) n count) e (within_as before (before ++ piece) (length before) (behind_text before piece) count w)

pub short_begun : (before piece : List ℕ) → HasShortLines before (length before) → HasShortLines (before ++ piece) (length before + 0)
short_begun before piece short =
    let e : length before ≡ length before + 0 = omega arith in
    subst (λ n. HasShortLines (before ++ piece) n) e (short_as before (before ++ piece) (length before) (behind_text before piece) short)

-- a byte of a piece, in the text
pub byte_of : (before piece : List ℕ) (i : ℕ) → get_or (before ++ piece) (length before + i) 0 ≡ get_or piece i 0
byte_of before piece i = get_or-append-add before piece i 0

-- a whole piece
pub all_put : (before piece new : List ℕ) (end count : ℕ) → EndsLines before piece end count → end ≡ length piece → new ≡ before ++ piece
    → IsWithinLine new (length new) count × HasShortLines new (length new)
all_put before piece new end count ends all is =
    let e : length before + end ≡ length new = omega (arith, all, ap length is, length-append before piece) in
    let w = subst (λ n. IsWithinLine (before ++ piece) n count) e ends.within in
    let s = subst (λ n. HasShortLines (before ++ piece) n) e ends.short in
    (subst (λ t. IsWithinLine t (length new) count) (sym is) w, subst (λ t. HasShortLines t (length new)) (sym is) s)

-- a piece with a line that is too long
pub cut_put : (before piece new : List ℕ) (end count : ℕ) → EndsLines before piece end count → end < length piece
    → new ≡ take (length before + end - 300) (before ++ take end piece) → IsCutBefore new (before ++ piece)
cut_put before piece new end count ends short is = cut
  where
    long : count ≡ 300
    long = (ends.long short).0

    at : ℕ
    at = length before + end

    within : count ≤ at
    within = ends.within.within

    size : length new ≡ at - 300
    size = omega (arith, ap length is, length-take (at - 300) (before ++ take end piece), length-append before (take end piece), length-take end piece, short)

    whole : length (before ++ piece) ≡ length before + length piece
    whole = length-append before piece

    begins : at - count ≡ length new
    begins = omega (arith, size, long)

    one : IsOneLine (before ++ piece) (length new) (length new + 301)
    one k low high = elim (cases_lt k at) [
      | inl inside ↦ ends.within.one k (omega (arith, low, begins)) inside
      | inr here ↦ let e : at ≡ k = omega (arith, here, high, size, long, within) in subst (λ n. get_or (before ++ piece) n 0 ≢ 10) e (λ ten. (ends.long short).1 (sym (byte_of before piece end) ∙ ten))
    ]

    cut : IsCutBefore new (before ++ piece)
    cut = record {
      front = is ∙ (ap (take (at - 300)) (sym (take-append-add before piece end)) ∙ (take-take (at - 300) at (before ++ piece) (omega arith) ∙ ap (λ n. take n (before ++ piece)) (sym size)));
      starts = subst (IsLineStart (before ++ piece)) begins ends.within.starts;
      short = λ from to up inside line. ends.short from to up (omega (arith, inside, size)) line;
      long = omega (arith, size, long, within, short, whole);
      one = one;
    }

-- more of the file after a text that was cut
pub cut_before : (text file rest : List ℕ) → IsCutBefore text file → IsCutBefore text (file ++ rest)
cut_before text file rest cut = record {
  front = cut.front ∙ sym (take-append-le (length text) file rest (omega (arith, cut.long)));
  starts = λ some. behind_text file rest (length text - 1) (omega (arith, some, cut.long)) ∙ cut.starts some;
  short = short_as file (file ++ rest) (length text) (λ k below. behind_text file rest k (omega (arith, below, cut.long))) cut.short;
  long = omega (arith, cut.long, length-append file rest);
  one = λ k low high e. cut.one k low high (sym (behind_text file rest k (omega (arith, high, cut.long))) ∙ e);
}

-- one more byte of a piece: a newline, or another byte in a line that is not yet too long
pub newline_more : (before piece : List ℕ) (i : ℕ) → get_or piece i 0 ≡ 10 → HasShortLines (before ++ piece) (length before + i)
    → IsWithinLine (before ++ piece) (length before + (i + 1)) 0 × HasShortLines (before ++ piece) (length before + (i + 1))
newline_more before piece i new short =
    let e : length before + i + 1 ≡ length before + (i + 1) = omega arith in
    let ten = byte_of before piece i ∙ new in
    (subst (λ n. IsWithinLine (before ++ piece) n 0) e (within_newline (before ++ piece) (length before + i) ten), subst (HasShortLines (before ++ piece)) e (short_newline (before ++ piece) (length before + i) ten short))

pub other_more : (before piece : List ℕ) (i count : ℕ) → get_or piece i 0 ≢ 10 → count < 300 → IsWithinLine (before ++ piece) (length before + i) count
    → HasShortLines (before ++ piece) (length before + i)
    → IsWithinLine (before ++ piece) (length before + (i + 1)) (count + 1) × HasShortLines (before ++ piece) (length before + (i + 1))
other_more before piece i count other few within short =
    let e : length before + i + 1 ≡ length before + (i + 1) = omega arith in (
      subst (λ n. IsWithinLine (before ++ piece) n (count + 1)) e (within_more (before ++ piece) (length before + i) count (λ ten. other (sym (byte_of before piece i) ∙ ten)) within),
      subst (HasShortLines (before ++ piece)) e (short_more (before ++ piece) (length before + i) count few within short),
    )

-- what a read returns of known bytes
pub consumed : (old new : Option (List ℕ)) (rest bs : List ℕ) → old ≡ Some rest → Consumes old new bs → (more : List ℕ) × (new ≡ Some more) × (rest ≡ bs ++ more)
consumed None new rest bs is consumes = absurd (cc)
consumed (Some xs) None rest bs is consumes = absurd consumes
consumed (Some xs) (Some ys) rest bs is consumes = (ys, refl, some_same rest xs (sym is) ∙ consumes)
  where
    some_same : (a b : List ℕ) → Some a ≡ Some b → a ≡ b
    some_same a b e = cc

pub read_ahead_pending : (bytes text rest piece more : List ℕ) → bytes ≡ text ++ rest → rest ≡ piece ++ more → bytes ≡ (text ++ piece) ++ more
read_ahead_pending bytes text rest piece more known parted = known ∙ (ap (λ l. text ++ l) parted ∙ sym (append_assoc text piece more))

-- a file that is read to its end
pub all_read : {E : Type 0} (bytes text rest : List ℕ) (old new : Option (List ℕ)) (r : Result ℕ E) (n : ℕ) (buf : List ℕ) → bytes ≡ text ++ rest → old ≡ Some rest → r ≡ Ok n → n ≡ 0
    → 0 < length buf → ReadConsumes old new r buf → text ≡ bytes
all_read bytes text rest old new (Err e) n buf known is was zero room reads = absurd (cc)
all_read bytes text rest old new (Ok m) n buf known is was zero room reads =
    let none : m ≡ 0 = cc in
    let more = consumed old new rest (take m buf) is reads.0 in
    sym (known ∙ (ap (λ l. text ++ l) (more.2 ∙ ap₂ (λ k l. take k buf ++ l) none (at_end new more.0 more.1 (reads.1 none room))) ∙ append-nil text))
  where
    at_end : (known : Option (List ℕ)) (xs : List ℕ) → known ≡ Some xs → IsAtEnd known → xs ≡ []
    at_end None xs e ended = absurd (cc)
    at_end (Some ys) xs e ended = let same : xs ≡ ys = cc in same ∙ ended

-- what a piece leaves of a file, if it is appended whole, and if it has a line that is too long
pub read_more : (bytes text rest : List ℕ) (old after : Option (List ℕ)) (n m : ℕ) (buf : List ℕ) → bytes ≡ text ++ rest → old ≡ Some rest → m ≡ n
    → Consumes old after (take n buf) → (more : List ℕ) × (after ≡ Some more) × (bytes ≡ (text ++ take m buf) ++ more)
read_more bytes text rest old after n m buf known is same reads =
    let more = consumed old after rest (take n buf) is reads in
    (more.0, more.1, read_ahead_pending bytes text rest (take m buf) more.0 known (more.2 ∙ ap (λ k. take k buf ++ more.0) (sym same)))
