-- What the beginning of the rest of a listing becomes in a table.
use Rattle.std.proofs.Common.{◌≡◌, ◌≢◌, ℕ, zero, suc, ◌+◌, ◌-◌, ◌<◌, ◌≤◌, ◌==◌, Bool, true, false, Option, List, [], ◌∷◌, ◌++◌, length, take, drop, get_or, refl, sym, ap, ◌∙◌, subst, arith, append-nil}
use Rattle.std.specs.Io.KnownBytes.{Appends}
use Rattle.std.proofs.KnownBytes.{Appends-nil, Appends-trans}
use Rattle.std.proofs.Math.Seq.{take-add}
use Rattle.std.proofs.lemmas.Bool.Decides.{nat_tests}
use Rattle.std.proofs.lemmas.List.{take_rest}
use Rattle.elf_model.proofs.TableLaws.{end_in_pieces, in_pieces}
use Rattle.elf_model.specs.TableTexts.{before_line, byte_in_table, place_after, state_after, state_at_end, table_from}
use Rattle.elf_model.specs.declared.formats.LinePlace.{LinePlace}
use Rattle.elf_model.specs.declared.formats.LinePlace.TheVariants as place
use Rattle.elf_model.specs.declared.formats.TableState.{TableState}
use Rattle.elf_format.specs.TableWriters.{HasNoInnerNewline, Renders, TableWriting}

abbrev at_place : LinePlace → ℕ → TableState
at_place spot letter = record { place = spot; letter = letter }

-- the letter of a line
pub letter_becomes : (state : TableState) (bytes : List ℕ) → state.place ≡ place.Letter → 0 < length bytes
    → (table_from state (take 1 bytes) ≡ before_line state.letter (get_or bytes 0 0))
    × (state_at_end state (take 1 bytes) ≡ record { place = place.Space; letter = get_or bytes 0 0 })
unfolding table_from state_at_end byte_in_table state_after
letter_becomes state [] at some = absurd (omega arith)
letter_becomes state (byte ∷ bytes) at some = rw at (append-nil (before_line state.letter byte), refl)

-- the space after it
pub space_becomes : (state : TableState) (bytes : List ℕ) → state.place ≡ place.Space → 0 < length bytes
    → (table_from state (take 1 bytes) ≡ []) × (state_at_end state (take 1 bytes) ≡ record { place = place.Fields; letter = state.letter })
unfolding table_from state_at_end byte_in_table state_after
space_becomes state [] at some = absurd (omega arith)
space_becomes state (byte ∷ bytes) at some = rw at (refl, refl)

-- a byte of a line that is no newline
stays : (letter byte : ℕ) → byte ≢ 10 → state_after (at_place place.Fields letter) byte ≡ at_place place.Fields letter
unfolding state_after
stays letter byte other = let no : (byte == 10) ≡ false = grind (arith, nat_tests) in rw no refl

-- the fields of a line, or a part of them
fields_from : (letter : ℕ) (bytes : List ℕ) (count : ℕ) → count < length bytes → HasNoInnerNewline bytes (suc count)
    → (table_from (at_place place.Fields letter) (take (suc count) bytes) ≡ take (suc count) bytes)
    × (state_at_end (at_place place.Fields letter) (take (suc count) bytes) ≡ at_place (place_after (get_or bytes count 0)) letter)
unfolding table_from state_at_end byte_in_table state_after
fields_from letter [] count less one = absurd (omega arith)
fields_from letter (byte ∷ bytes) zero less one = (refl, refl)
fields_from letter (byte ∷ bytes) (suc count) less one =
    let same = stays letter byte (one 0 (omega arith)) in
    let rest = fields_from letter bytes count (omega arith) (λ k few. one (suc k) (omega arith)) in (
      ap (λ (s : TableState). byte ∷ table_from s (take (suc count) bytes)) same ∙ ap (λ (xs : List ℕ). byte ∷ xs) rest.0,
      ap (λ (s : TableState). state_at_end s (take (suc count) bytes)) same ∙ rest.1,
    )

-- a state by its place
state_is : (state : TableState) (spot : LinePlace) → state.place ≡ spot → state ≡ at_place spot state.letter
state_is state spot at = ap (λ (p : LinePlace). at_place p state.letter) at

pub fields_become : (state : TableState) (bytes : List ℕ) (count : ℕ) → state.place ≡ place.Fields → 0 < count → count ≤ length bytes → HasNoInnerNewline bytes count
    → (table_from state (take count bytes) ≡ take count bytes)
    × (state_at_end state (take count bytes) ≡ at_place (place_after (get_or bytes (count - 1) 0)) state.letter)
fields_become state bytes zero at some within one = absurd (omega arith)
fields_become state bytes (suc count) at some within one =
    let is = state_is state place.Fields at in
    let back : suc count - 1 ≡ count = omega arith in
    let from = fields_from state.letter bytes count (omega arith) one in (
      ap (λ (s : TableState). table_from s (take (suc count) bytes)) is ∙ from.0,
      rw back (ap (λ (s : TableState). state_at_end s (take (suc count) bytes)) is ∙ from.1),
    )

-- the letter of a line was written
pub letter_put : (below after : Option (List ℕ)) (state : TableState) (bytes : List ℕ) (kind : Bool) → kind ≡ true → state.place ≡ place.Letter → 0 < length bytes
    → Appends below after (before_line state.letter (get_or bytes 0 0))
    → Renders (record { below = below; is_table = kind; state = state }) (record { below = after; is_table = kind; state = record { place = place.Space; letter = get_or bytes 0 0 } })
    (take 1 bytes)
letter_put below after state bytes kind is at some put =
    let becomes = letter_becomes state bytes at some in
    rw is (record { appends = rw becomes.0 put; state = sym becomes.1; kind = refl })

-- the space after it was left out
pub space_put : (below : Option (List ℕ)) (state : TableState) (bytes : List ℕ) (kind : Bool) → kind ≡ true → state.place ≡ place.Space → 0 < length bytes
    → Renders (record { below = below; is_table = kind; state = state }) (record { below = below; is_table = kind; state = record { place = place.Fields; letter = state.letter } })
    (take 1 bytes)
space_put below state bytes kind is at some =
    let becomes = space_becomes state bytes at some in
    rw is (record { appends = rw becomes.0 (Appends-nil below); state = sym becomes.1; kind = refl })

-- fields were written
pub fields_put : (below after : Option (List ℕ)) (state end : TableState) (bytes : List ℕ) (count : ℕ) (kind : Bool) → kind ≡ true → state.place ≡ place.Fields
    → 0 < count → count ≤ length bytes → HasNoInnerNewline bytes count → Appends below after (take count bytes)
    → end ≡ at_place (place_after (get_or bytes (count - 1) 0)) state.letter
    → Renders (record { below = below; is_table = kind; state = state }) (record { below = after; is_table = kind; state = end }) (take count bytes)
fields_put below after state end bytes count kind is at some within one put ends =
    let becomes = fields_become state bytes count at some within one in
    rw is (record { appends = rw becomes.0 put; state = ends ∙ sym becomes.1; kind = refl })

-- where a line ends, and where it goes on
pub line_ended : (state : TableState) (byte : ℕ) → byte ≡ 10 → at_place place.Letter state.letter ≡ at_place (place_after byte) state.letter
line_ended state byte is = rw is refl

pub line_goes_on : (state : TableState) (byte : ℕ) → state.place ≡ place.Fields → byte ≢ 10 → state ≡ at_place (place_after byte) state.letter
line_goes_on state byte at other =
    let no : (byte == 10) ≡ false = grind (arith, nat_tests) in rw no (state_is state place.Fields at)

-- bytes, and then more of them
pub appends_nothing : (a : Option (List ℕ)) → Appends a a []
appends_nothing a = Appends-nil a

pub appends_more : (a b c : Option (List ℕ)) (xs ys : List ℕ) → Appends a b xs → Appends b c ys → Appends a c (xs ++ ys)
appends_more a b c xs ys p q = Appends-trans a b c xs ys p q

-- nothing becomes nothing
pub renders_nothing : (a : TableWriting) → a.is_table ≡ true → Renders a a []
unfolding table_from state_at_end
renders_nothing a is = record { appends = rw is (Appends-nil a.below); state = rw is refl; kind = refl }

-- bytes, and then more of them
Renders-both : (a b c : TableWriting) (front rest : List ℕ) → a.is_table ≡ true → Renders a b front → Renders b c rest → Renders a c (front ++ rest)
Renders-both a b c front rest is p q =
    let is_b : b.is_table ≡ true = p.kind ∙ is in
    let p1 : Appends a.below b.below (table_from a.state front) = rw is at p.appends in
    let p2 : b.state ≡ state_at_end a.state front = rw is at p.state in
    let q1 : Appends b.below c.below (table_from (state_at_end a.state front) rest) = rw (is_b, p2) at q.appends in
    let q2 : c.state ≡ state_at_end (state_at_end a.state front) rest = rw (is_b, p2) at q.state in
    record {
      appends = rw (is, in_pieces a.state front rest) (Appends-trans a.below b.below c.below _ _ p1 q1);
      state = rw (is, end_in_pieces a.state front rest) q2;
      kind = q.kind ∙ p.kind;
    }

-- the first d bytes, and then n of the remaining ones
pub renders_turn : (a b c : TableWriting) (bytes : List ℕ) (d n : ℕ) → a.is_table ≡ true
    → Renders a b (take d bytes) → Renders b c (take n (take (length bytes - d) (drop d bytes))) → Renders a c (take (d + n) bytes)
renders_turn a b c bytes d n is p q =
    let left = subst (λ (l : List ℕ). Renders b c (take n l)) (take_rest bytes d) q in
    subst (Renders a c) (sym (take-add d n bytes)) (Renders-both a b c _ _ is p left)
