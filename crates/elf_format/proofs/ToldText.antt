-- A text as it is escaped for a terminal, byte by byte, and which bytes it has.
use Rattle.std.proofs.Common.{◌≡◌, ◌≢◌, ℕ, ◌+◌, ◌/◌, ◌%◌, ◌^◌, ◌<◌, ◌≤◌, ◌==◌, ◌&&◌, nat_le, nat_lt, true, false, inl, inr, refl, sym}
use Rattle.std.proofs.Common.{List, [], ◌∷◌, ◌++◌, length, drop, get_or, ap, ◌∙◌, arith}
use Rattle.std.proofs.Common.{append_assoc, append-nil, add-one, drop-cons}
use Rattle.std.specs.Prelude.{All}
use Rattle.std.proofs.lemmas.Bool.{cases_Bool}
use Rattle.std.proofs.lemmas.Bool.Decides.{nat_tests}
use Rattle.std.proofs.lemmas.List.{drop_all}
use Rattle.std.proofs.lemmas.List.Elements.{All-nil, All-cons, All-head, All-tail, All-append}
use Rattle.elf_model.specs.Prelude.{digit, hex, name_byte_text}
use Rattle.elf_source.specs.Output.{OutState}
use Rattle.elf_format.specs.Prelude.{IsPlain, TakesBefore, reported_byte, reported_text}
use Rattle.elf_format.proofs.Pieces.{TakesBefore-more, TakesBefore-then}

-- the bytes that are left are the next byte and those after it
told-next : (text : List ℕ) (i : ℕ) → i < length text → reported_text (drop i text) ≡ reported_byte (get_or text i 0) ++ reported_text (drop (i + 1) text)
unfolding reported_text
told-next text i inside = rw (add-one, drop-cons text i 0 inside) refl

-- no bytes are left
pub told-none : (items text : List ℕ) (i : ℕ) → length text ≤ i → items ++ reported_text (drop i text) ≡ items
unfolding reported_text
told-none items text i over = rw (drop_all i text over) (append-nil items)

-- a byte is appended to a line that may have been begun again
pub told-more : {a b c : OutState} {whole line room put : List ℕ} (text : List ℕ) (i : ℕ)
    → i < length text → TakesBefore a b whole (line ++ reported_text (drop i text))
    → TakesBefore b c line room → put ≡ room ++ reported_byte (get_or text i 0)
    → TakesBefore a c whole (put ++ reported_text (drop (i + 1) text))
told-more {a} {b} {c} {whole} {line} {room} {put} text i inside before made is =
    let byte = reported_byte (get_or text i 0) in
    let rest = reported_text (drop (i + 1) text) in
    let same : room ++ reported_text (drop i text) ≡ put ++ rest =
    ap (λ xs. room ++ xs) (told-next text i inside)
    ∙ sym (append_assoc room byte rest)
    ∙ ap (λ xs. xs ++ rest) (sym is) in
    rw (sym same) (TakesBefore-then before (TakesBefore-more (reported_text (drop i text)) made))

-- a hexadecimal digit is a printing character
digit-plain : (n : ℕ) → n < 16 → IsPlain (digit n)
unfolding digit
digit-plain n small = elim (cases_Bool (nat_lt n 10)) [
  | inl below ↦ rw below (inr (omega arith, let h : n < 10 = grind (arith, nat_tests) in omega arith))
  | inr over ↦ rw over (inr (omega arith, omega arith))
]

-- so are the digits of a byte
digits-plain : (byte : ℕ) → All IsPlain (hex 2 byte)
unfolding hex
digits-plain byte =
    let low = digit (byte / 16 ^ 0 % 16) in
    All-cons IsPlain (digit (byte / 16 ^ 1 % 16)) (low ∷ []) (digit-plain (byte / 16 ^ 1 % 16) (omega arith))
    (All-cons IsPlain low [] (digit-plain (byte / 16 ^ 0 % 16) (omega arith)) (All-nil IsPlain))

-- each byte is written in plain bytes
byte-plain : (byte : ℕ) → All IsPlain (reported_byte byte)
unfolding reported_byte name_byte_text
byte-plain byte = elim (cases_Bool (byte == 10)) [
  | inl is ↦ rw is (All-cons IsPlain 10 [] (inl refl) (All-nil IsPlain))
  | inr other ↦ rw other (elim (cases_Bool (byte == 0x5c)) [
    | inl is ↦ rw is (All-cons IsPlain 0x5c (0x5c ∷ []) (inr (omega arith, omega arith)) (All-cons IsPlain 0x5c [] (inr (omega arith, omega arith)) (All-nil IsPlain)))
    | inr other ↦ rw other (elim (cases_Bool (nat_le 0x20 byte && nat_le byte 0x7e)) [
      | inl prints ↦ rw prints (All-cons IsPlain byte [] (inr (let h : 0x20 ≤ byte = grind (arith, nat_tests) in h, let h : byte ≤ 0x7e = grind (arith, nat_tests) in h)) (All-nil IsPlain))
      | inr odd ↦ rw odd (All-cons IsPlain 0x5c (0x78 ∷ hex 2 byte) (inr (omega arith, omega arith)) (All-cons IsPlain 0x78 (hex 2 byte) (inr (omega arith, omega arith)) (digits-plain byte)))
    ])
  ])
]

-- a text is written in plain bytes
pub told-plain : (text : List ℕ) → All IsPlain (reported_text text)
unfolding reported_text
told-plain [] = All-nil IsPlain
told-plain (byte ∷ bytes) = All-append IsPlain (reported_byte byte) (reported_text bytes) (byte-plain byte) (told-plain bytes)

-- a plain byte that is no backslash is unchanged
byte-unchanged : (byte : ℕ) → IsPlain byte → byte ≢ 0x5c → reported_byte byte ≡ byte ∷ []
unfolding reported_byte name_byte_text
byte-unchanged byte (inl is) other = rw is refl
byte-unchanged byte (inr prints) other =
    let a : (byte == 10) ≡ false = grind (arith, nat_tests) in
    let b : (byte == 0x5c) ≡ false = grind (arith, nat_tests) in
    let c : nat_le 0x20 byte ≡ true = grind (arith, nat_tests) in
    let d : nat_le byte 0x7e ≡ true = grind (arith, nat_tests) in
    rw (a, b, c, d) refl

-- a plain text without a backslash is unchanged
pub told-unchanged : (text : List ℕ) → All IsPlain text → All (λ byte. byte ≢ 0x5c) text → reported_text text ≡ text
unfolding reported_text
told-unchanged [] plain others = refl
told-unchanged (byte ∷ bytes) plain others =
    rw (
      byte-unchanged byte (All-head IsPlain byte bytes plain) (All-head (λ b. b ≢ 0x5c) byte bytes others),
      told-unchanged bytes (All-tail IsPlain byte bytes plain) (All-tail (λ b. b ≢ 0x5c) byte bytes others),
    ) refl
