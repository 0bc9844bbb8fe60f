-- A text printed by another one, byte by byte.
use Rattle.std.proofs.Common.{◌≡◌, ◌≢◌, ℕ, ◌+◌, ◌<◌, ◌≤◌, ◌==◌, true, false, inl, inr, codes, List, [], ◌∷◌, ◌++◌, length, drop, get_or, refl, subst, arith}
use Rattle.std.proofs.Common.{append-nil, add-one, drop-cons}
use Rattle.std.proofs.lemmas.List.{drop_all}
use Rattle.std.proofs.lemmas.Bool.{cases_Bool}
use Rattle.std.proofs.lemmas.Bool.Decides.{nat_tests}
use Rattle.elf_model.specs.Prelude.{digit, hex, name_byte_text}
use Rattle.elf_format.specs.Prelude.{TakesBefore, reported_byte, reported_text}
use Rattle.elf_format.proofs.Pieces.{TakesBefore-front, TakesBefore-then}
use Rattle.elf_source.specs.Output.{OutState, SinkTakes, SinkTakesPrefix}
use Rattle.elf_source.proofs.PutsLaws.{SinkTakesPrefix-more}
use Rattle.elf_cli.specs.Marked.{byte_beside, bytes_beside, told_beside}

-- the remaining bytes are the next byte and those after it
pub beside-next : (text marked : List ℕ) (i : ℕ) → i < length text → length text ≡ length marked
    → bytes_beside (drop i text) (drop i marked) ≡ byte_beside (get_or text i 0) (get_or marked i 0) ++ bytes_beside (drop (i + 1) text) (drop (i + 1) marked)
unfolding bytes_beside
beside-next text marked i inside same =
    let there : i < length marked = omega (arith, inside, same) in
    rw (add-one, drop-cons text i 0 inside, drop-cons marked i 0 there) refl

-- no bytes are left
pub beside-none : (text marked : List ℕ) (i : ℕ) → length text ≤ i → bytes_beside (drop i text) (drop i marked) ≡ []
unfolding bytes_beside
beside-none text marked i over = rw (drop_all i text over) refl

-- texts of one length are printed by their bytes
pub beside-same : (text marked : List ℕ) → length text ≡ length marked → told_beside text marked ≡ bytes_beside text marked
unfolding told_beside
beside-same text marked same =
    let is : (length text == length marked) ≡ true = grind (arith, nat_tests) in
    rw is refl

-- with a text of another length each newline is as it is
pub beside-other : (text marked : List ℕ) → length text ≢ length marked → told_beside text marked ≡ reported_text text
unfolding told_beside
beside-other text marked other =
    let is : (length text == length marked) ≡ false = grind (arith, nat_tests) in
    rw is refl

-- the next byte was written
pub beside-more : {a b c : OutState} {whole : List ℕ} (text marked : List ℕ) (i : ℕ) → i < length text → length text ≡ length marked
    → TakesBefore a b whole (bytes_beside (drop i text) (drop i marked))
    → SinkTakes b c (byte_beside (get_or text i 0) (get_or marked i 0))
    → TakesBefore a c whole (bytes_beside (drop (i + 1) text) (drop (i + 1) marked))
beside-more {a} {b} {c} {whole} text marked i inside same before took =
    TakesBefore-then (subst (TakesBefore a b whole) (beside-next text marked i inside same) before) (record { front = byte_beside (get_or text i 0) (get_or marked i 0); split = refl; takes = took })

-- or a prefix of it
pub beside-front : {a b c : OutState} {whole : List ℕ} (text marked : List ℕ) (i : ℕ) → i < length text → length text ≡ length marked
    → TakesBefore a b whole (bytes_beside (drop i text) (drop i marked))
    → SinkTakesPrefix b c (byte_beside (get_or text i 0) (get_or marked i 0))
    → SinkTakesPrefix a c whole
beside-front {a} {b} {c} {whole} text marked i inside same before took =
    TakesBefore-front (subst (TakesBefore a b whole) (beside-next text marked i inside same) before)
    (SinkTakesPrefix-more (byte_beside (get_or text i 0) (get_or marked i 0)) (bytes_beside (drop (i + 1) text) (drop (i + 1) marked)) took)

-- a newline of an argument
pub newline-told : (byte mark : ℕ) → byte ≡ 10 → (mark == 10) ≡ false → codes "\\x0a" ≡ byte_beside byte mark
unfolding byte_beside name_byte_text hex digit
newline-told byte mark is other = rw (is, other) refl

-- a byte that is written alone
pub byte-told : (byte mark : ℕ) → (byte ≡ 10 → mark ≡ 10) → reported_text (byte ∷ []) ≡ byte_beside byte mark
unfolding reported_text reported_byte byte_beside
byte-told byte mark h = elim (cases_Bool (byte == 10)) [
  | inl is ↦
      let same : (mark == 10) ≡ true = let e : byte ≡ 10 = grind (arith, nat_tests) in let m : mark ≡ 10 = h e in grind (arith, nat_tests) in
      rw (is, same) refl
  | inr other ↦ rw other (append-nil (name_byte_text byte))
]
