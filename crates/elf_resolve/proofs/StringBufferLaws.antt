-- Texts in a buffer: what keeps them, parts of them, and texts that are read, joined or split.
use Rattle.std.proofs.Common.{◌≡◌, ℕ, ◌+◌, ◌-◌, ◌<◌, ◌≤◌, ◌^◌, ◌==◌, min, Bool, true, false, List, [], ◌∷◌, ◌++◌, length, get_or, take, drop, inl, inr, refl, sym, ap, ◌∙◌, zero-le, arith, IsOk, Result, is_ok, if◌then◌else◌, replicate, Vec}
use Rattle.std.specs.Prelude.{None, Some, Ok, Err}
use Rattle.std.specs.List.{position_or_len}
use Rattle.std.specs.Vec.{with_items}
use Rattle.std.proofs.lemmas.Bool.{cases_lt}
use Rattle.std.proofs.lemmas.Bool.Decides.{nat_tests}
use Rattle.std.proofs.lemmas.List.{append-nil, append_assoc, drop_all, drop-drop, drop-take, drop_at, get_or_past, length-append, length-drop, length-replicate, length-take, nil_from_length, take-take, take_all, take_at, with_items_is}
use Rattle.std.proofs.lemmas.List.Sums.{position_or_len_is}
use Rattle.std.proofs.lemmas.Slice.{take-put_mid}
use borrow.Rule.Slice.PartMut.{put_mid, same_len_mid}
use Rattle.memchr.specs.Find.{IsFirstByte, is_byte}
use Rattle.elf_model.specs.Bytes.{slice}
use Rattle.elf_model.specs.LinkSymbols.{is_default_at, link_name, version_sign_in}
use Rattle.elf_model.specs.Names.{nul_in, shown}
use Rattle.elf_model.specs.Names.DisplayedName.{Whole}
use Rattle.elf_model.specs.declared.causes.Cause.TheVariants.{NameOutside, NameUnended}
use Rattle.elf_model.specs.declared.link_states.LinkCause.TheVariants.{Refused}
use Rattle.elf_model.proofs.NameLemmas.{shown-empty, shown-outside}
use Rattle.elf_model.proofs.NameLoops.{shown-found, shown-open}
use Rattle.elf_model.proofs.Searches.{slice-two}
use Rattle.elf_resolve.specs.StringBuffers.{FindsText, HoldsText, JoinedTexts, KeptTexts, ReadText, SplitName, TableTexts}
use Rattle.elf_resolve.specs.declared.string_buffer.HeldText.{HeldText}

-- a slice of the first bytes
slice-take : (bytes : List ℕ) (n start size : ℕ) → start + size ≤ n → slice (take n bytes) start size ≡ slice bytes start size
slice-take bytes n start size within =
    let e : n ≡ start + (n - start) = omega arith in
    ap (λ k. take size (drop start (take k bytes))) e ∙ ap (take size) (drop-take start (n - start) bytes) ∙ take-take size (n - start) (drop start bytes) (omega arith)

-- A TEXT STAYS, if the bytes of a buffer stay the first ones
pub holds_kept : (old new : List ℕ) (text : HeldText) (is : List ℕ) → take (length old) new ≡ old → HoldsText old text is → HoldsText new text is
holds_kept old new text is first held =
    let longer : length old ≤ length new = omega (arith, length-take (length old) new, ap length first) in
    record {
      within = omega (arith, held.within);
      fits = held.fits;
      bytes_are = sym (slice-take new (length old) text.start text.size held.within) ∙ ap (λ b. slice b text.start text.size) first ∙ held.bytes_are;
    }

-- bytes after it change nothing, nor do those that are forgotten after it
pub holds_appended : (bytes more : List ℕ) (text : HeldText) (is : List ℕ) → HoldsText bytes text is → HoldsText (bytes ++ more) text is
holds_appended bytes more text is held = holds_kept bytes (bytes ++ more) text is (take_at bytes more (length bytes) refl) held

pub holds_first : (bytes : List ℕ) (n : ℕ) (text : HeldText) (is : List ℕ) → text.start + text.size ≤ n → HoldsText bytes text is → HoldsText (take n bytes) text is
holds_first bytes n text is within held = record {
  within = omega (arith, length-take n bytes, held.within);
  fits = held.fits;
  bytes_are = slice-take bytes n text.start text.size within ∙ held.bytes_are;
}

-- how many bytes it has
pub held_size : (bytes : List ℕ) (text : HeldText) (is : List ℕ) → HoldsText bytes text is → length is ≡ text.size
held_size bytes text is held =
    sym (ap length held.bytes_are) ∙ length-take text.size (drop text.start bytes) ∙ omega (arith, length-drop text.start bytes, held.within)

-- A PART of it
pub holds_part : (bytes : List ℕ) (text : HeldText) (is : List ℕ) (at size : ℕ) → HoldsText bytes text is → at + size ≤ length is
    → HoldsText bytes (record { start = text.start + at; size = size }) (slice is at size)
holds_part bytes text is at size held within =
    let sized = held_size bytes text is held in
    let e : text.size ≡ at + (text.size - at) = omega arith in
    record {
      within = omega (arith, held.within);
      fits = omega (arith, held.fits);
      bytes_are =
          ap (take size) (sym (drop-drop at text.start bytes))
          ∙ sym (take-take size (text.size - at) (drop at (drop text.start bytes)) (omega arith))
          ∙ ap (take size) (sym (drop-take at (text.size - at) (drop text.start bytes)))
          ∙ ap (λ k. take size (drop at (take k (drop text.start bytes)))) (sym e)
          ∙ ap (λ b. take size (drop at b)) held.bytes_are;
    }

-- WHAT IS APPENDED is held
pub holds_end : (bytes more : List ℕ) (text : HeldText) → text.start ≡ length bytes → text.size ≡ length more → text.start + text.size < 2 ^ 64 → HoldsText (bytes ++ more) text more
holds_end bytes more text start size fits = record {
  within = omega (arith, length-append bytes more);
  fits = fits;
  bytes_are = ap (take text.size) (drop_at bytes more text.start (sym start)) ∙ take_all text.size more (omega arith);
}

-- A NAME at an index of a table: the empty one of an empty table, one that ends, or none
link_name-of : (strings : List ℕ) (index at : ℕ) (name : List ℕ) → shown strings index (length strings) ≡ Ok (Whole name) → link_name strings index at ≡ Ok name
unfolding link_name
link_name-of strings index at name is = rw (is, link_name) refl

pub name_empty : (bytes strings : List ℕ) (table : HeldText) (index at : ℕ) → HoldsText bytes table strings → table.size ≡ 0 → index ≡ 0
    → FindsText bytes strings index at (Ok (record { start = 0; size = 0 }))
name_empty bytes strings table index at held none first =
    let empty : strings ≡ [] = nil_from_length strings (held_size bytes table strings held ∙ none) in
    ([], link_name-of strings index at [] (shown-empty strings index (length strings) (empty, first)), record { within = zero-le; fits = omega arith; bytes_are = refl })

pub name_outside : (bytes strings : List ℕ) (table : HeldText) (index at : ℕ) (rest : List ℕ) → HoldsText bytes table strings → (table.size ≡ 0 → index ≡ 0 → ⊥) → rest ≡ drop index strings
    → length rest ≡ 0 → link_name strings index at ≡ Err (record { at = at; cause = Refused NameOutside })
unfolding link_name
name_outside bytes strings table index at rest held other is none =
    let sized = held_size bytes table strings held in
    let past : length strings ≤ index = omega (arith, length-drop index strings, ap length is) in
    rw (shown-outside strings index (length strings) (past, λ e. other (sym sized ∙ ap length e.0) e.1), link_name) refl

pub name_unended : (bytes strings : List ℕ) (table : HeldText) (index at : ℕ) (rest : List ℕ) → HoldsText bytes table strings → rest ≡ drop index strings → 0 < length rest → nul_in rest ≡ None
    → link_name strings index at ≡ Err (record { at = at; cause = Refused NameUnended })
unfolding link_name
name_unended bytes strings table index at rest held is some none =
    let below : index < length strings = omega (arith, length-drop index strings, ap length is) in
    rw (shown-open strings index (length strings) below (omega arith) (ap nul_in (sym is) ∙ none), link_name) refl

pub name_found : (bytes strings : List ℕ) (table : HeldText) (index at start size : ℕ) (rest : List ℕ) → HoldsText bytes table strings → rest ≡ drop index strings → nul_in rest ≡ Some size → size < length rest
    → start ≡ min (table.start + index) (2 ^ 64 - 1) → FindsText bytes strings index at (Ok (record { start = start; size = size }))
name_found bytes strings table index at start size rest held is ends within from =
    let sized = held_size bytes table strings held in
    let longer : length rest + index ≡ length strings = omega (arith, length-drop index strings, ap length is) in
    let all : slice strings index (length strings + 1) ≡ rest = take_all (length strings + 1) (drop index strings) (omega (arith, ap length is)) ∙ sym is in
    let there : start ≡ table.start + index = omega (arith, held.fits) in
    let part = holds_part bytes table strings index size held (omega arith) in (
      slice strings index size,
      link_name-of strings index at (slice strings index size) (shown-found strings index (length strings) (length strings + 1) size (omega arith) (omega arith) (ap nul_in all ∙ ends)),
      record { within = omega (arith, part.within); fits = omega (arith, part.fits); bytes_are = ap (λ k. slice bytes k size) there ∙ part.bytes_are },
    )

-- A NAME AND A VERSION joined by a sign
pub joined : (old : TableTexts) (b0 b1 b2 b3 first second : List ℕ) (name version : HeldText) (most start size : ℕ) → record { bytes = b0; most = most } ≡ old
    → HoldsText b0 name first → HoldsText b0 version second → start ≡ length b0 → size ≡ name.size + 1 + version.size → start + size < 2 ^ 64
    → (HoldsText b0 name first → b1 ≡ b0 ++ first) → b2 ≡ b1 ++ 64 ∷ [] → (HoldsText b2 version second → b3 ≡ b2 ++ second)
    → JoinedTexts old (record { bytes = b3; most = most }) first second (record { start = start; size = size })
joined old b0 b1 b2 b3 first second name version most start size is f s from sized fits one sign two =
    let t1 = one f in
    let held : HoldsText b2 version second = rw (sign, t1) (holds_appended (b0 ++ first) (64 ∷ []) version second (holds_appended b0 first version second s)) in
    record {
      bytes = two held ∙ ap (λ b. b ++ second) (sign ∙ ap (λ b. b ++ 64 ∷ []) t1) ∙ append_assoc (b0 ++ first) (64 ∷ []) second ∙ append_assoc b0 first (64 ∷ second) ∙ ap (λ (o : TableTexts). o.bytes ++ (first ++ 64 ∷ second)) is;
      start = from ∙ ap (λ (o : TableTexts). length o.bytes) is;
      fits = fits;
      size_is = omega (arith, length-append first (64 ∷ second), held_size b0 name first f, held_size b0 version second s);
      most = ap (λ (o : TableTexts). o.most) is;
    }

-- ONE PIECE MORE of the bytes of a file
pub piece_read : (file bytes piece : List ℕ) (at done count k : ℕ) → done ≤ length bytes → take done bytes ≡ slice file at done
    → length piece ≡ count → piece ≡ slice file (at + done) count → take (done + count) (put_mid done k bytes piece) ≡ slice file at (done + count)
piece_read file bytes piece at done count k within before long is =
    take-put_mid done k bytes piece (done + count) (omega arith) within
    ∙ ap (λ xs. xs ++ piece) before ∙ ap (λ xs. slice file at done ++ xs) is ∙ sym (slice-two file at done count)

-- BYTES PUT AFTER those of other tables, which are grown for them
resized : {E : Type 0} (r : Result (Unit {0}) E) (grown all bytes : List ℕ) → IsOk r → grown ≡ (if is_ok r then all else bytes) → grown ≡ all
resized (Ok x) grown all bytes ok is = is
resized (Err e) grown all bytes ok is = cc

put_after : (b0 grown out filler : List ℕ) (start end : ℕ) → start ≡ length b0 → start ≤ end → length filler ≡ end - start → grown ≡ take end b0 ++ filler
    → put_mid start (end - start) grown out ≡ b0 ++ out
put_after b0 grown out filler start end from within fills is =
    let all : take end b0 ≡ b0 = take_all end b0 (omega arith) in
    let grows : grown ≡ b0 ++ filler = is ∙ ap (λ b. b ++ filler) all in
    let first : take start grown ≡ b0 = ap (take start) grows ∙ take_at b0 filler start (sym from) in
    let rest : drop start grown ≡ filler = ap (drop start) grows ∙ drop_at b0 filler start (sym from) in
    let none : drop (end - start) (drop start grown) ≡ [] = ap (drop (end - start)) rest ∙ drop_all (end - start) filler (omega arith) in
    ap (λ b. b ++ (out ++ drop (end - start) (drop start grown))) first ∙ ap (λ b. b0 ++ (out ++ b)) none ∙ ap (λ b. b0 ++ b) (append-nil out)

pub filled : {Z : Type 0} (v : Vec ℕ Z) (grown out : List ℕ) (start count : ℕ) → grown ≡ v.items → length out ≡ length (take count (drop start grown))
    → (with_items v (put_mid start count grown out)).items ≡ put_mid start count grown out
filled v grown out start count is long = with_items_is v (put_mid start count grown out) (same_len_mid start count grown out long ∙ ap length is ∙ sym v.ok.0)

pub grown_put : {E : Type 0} (r : Result (Unit {0}) E) (b0 mid grown out : List ℕ) (n start end : ℕ) → IsOk r → n ≡ length b0 → start ≡ length b0 → start ≤ end
    → grown ≡ mid → mid ≡ (if is_ok r then take end b0 ++ replicate (end - n) 0 else b0) → put_mid start (end - start) grown out ≡ b0 ++ out
grown_put r b0 mid grown out n start end ok sized from within same is =
    put_after b0 grown out (replicate (end - n) 0) start end from within (length-replicate (end - n) 0 ∙ omega arith) (same ∙ resized r mid _ _ ok is)

pub grown_long : {E : Type 0} (r : Result (Unit {0}) E) (b0 mid grown : List ℕ) (n start end : ℕ) → IsOk r → n ≡ length b0 → start ≡ length b0 → start ≤ end
    → grown ≡ mid → mid ≡ (if is_ok r then take end b0 ++ replicate (end - n) 0 else b0) → length grown ≡ end
grown_long r b0 mid grown n start end ok sized from within same is =
    let sum = length-append (take end b0) (replicate (end - n) 0) in
    ap length (same ∙ resized r mid _ _ ok is) ∙ sum ∙ omega (arith, length-take end b0, length-replicate {A = ℕ} (end - n) 0)

pub texts_kept : (old : TableTexts) (b0 new out : List ℕ) (most : ℕ) → record { bytes = b0; most = most } ≡ old → new ≡ b0 ++ out → KeptTexts old (record { bytes = new; most = most })
texts_kept old b0 new out most is grows = record {
  most = ap (λ (o : TableTexts). o.most) is;
  first = ap (λ (o : TableTexts). take (length o.bytes) new) (sym is) ∙ ap (take (length b0)) grows ∙ take_at b0 out (length b0) refl ∙ ap (λ (o : TableTexts). o.bytes) is;
}

pub kept_then : {a b c : TableTexts} → KeptTexts a b → KeptTexts b c → KeptTexts a c
kept_then {a} {b} {c} p q =
    let longer : length a.bytes ≤ length b.bytes = omega (arith, length-take (length a.bytes) b.bytes, ap length p.first) in
    record {
      most = q.most ∙ p.most;
      first = sym (take-take (length a.bytes) (length b.bytes) c.bytes longer) ∙ ap (take (length a.bytes)) q.first ∙ p.first;
    }

-- they are those of a file
pub read_text : (file : List ℕ) (at size part count start : ℕ) (old : TableTexts) (b0 new out : List ℕ) (most : ℕ) → record { bytes = b0; most = most } ≡ old → start ≡ length b0
    → part ≡ size → count ≡ size → start + size < 2 ^ 64 → (0 < part → at + part ≤ length file) → out ≡ slice file at part → new ≡ b0 ++ out
    → ReadText file at size old (record { bytes = new; most = most }) (record { start = start; size = count })
read_text file at size part count start old b0 new out most is from sized counted fits within read grows = record {
  within = λ some. omega (arith, within);
  start = from ∙ ap (λ (o : TableTexts). length o.bytes) is;
  fits = omega arith;
  size_is = counted;
  bytes = grows ∙ ap (λ b. b0 ++ b) (read ∙ ap (slice file at) sized) ∙ ap (λ (o : TableTexts). o.bytes ++ slice file at size) is;
  most = ap (λ (o : TableTexts). o.most) is;
}

-- they are held, and so are a name and a version that are joined
pub holds_read : (file : List ℕ) (at size : ℕ) (old new : TableTexts) (text : HeldText) → ReadText file at size old new text → HoldsText new.bytes text (slice file at size)
holds_read file at size old new text read =
    let sized : text.size ≡ length (slice file at size) = read.size_is ∙ sym (slice_whole (read.within)) in
    rw read.bytes (holds_end old.bytes (slice file at size) text read.start sized read.fits)
  where
    slice_whole : (0 < size → at + size ≤ length file) → length (slice file at size) ≡ size
    slice_whole within = elim (cases_lt 0 size) [
      | inl some ↦ length-take size (drop at file) ∙ omega (arith, length-drop at file, within some)
      | inr none ↦ length-take size (drop at file) ∙ omega arith
    ]

pub holds_joined : (old new : TableTexts) (name version : List ℕ) (text : HeldText) → JoinedTexts old new name version text → HoldsText new.bytes text (name ++ 64 ∷ version)
holds_joined old new name version text joins = rw joins.bytes (holds_end old.bytes (name ++ 64 ∷ version) text joins.start joins.size_is joins.fits)

-- THE SIGN OF A VERSION: its first one
not_true : (t : Bool) → (t ≡ true → ⊥) → t ≡ false
not_true true other = absurd (other refl)
not_true false other = refl

pub sign_first : (bytes : List ℕ) (place : ℕ) → IsFirstByte (is_byte 64) bytes (Some place) → version_sign_in bytes ≡ Some place
sign_first bytes place h =
    let e : position_or_len (λ b. b == 64) bytes ≡ place =
    position_or_len_is (λ b. b == 64) bytes place 0 (omega (arith, h.0.high)) (λ i l. not_true (get_or bytes i 0 == 64) (h.0.before i zero-le l)) (λ l. h.1) in
    grind (arith, nat_tests, h.0.high)

pub no_default : (bytes : List ℕ) (place : ℕ) → IsFirstByte (is_byte 64) bytes (Some place) → is_default_at bytes place ≡ false
    → (other : ℕ) → version_sign_in bytes ≡ Some other → is_default_at bytes other ≡ false
no_default bytes place first none other sign =
    let e : other ≡ place = cc (sym sign, sign_first bytes place first) in
    ap (is_default_at bytes) e ∙ none

-- a name split there
pub split_name : (bytes : List ℕ) (name : HeldText) (place start size : ℕ) → IsFirstByte (is_byte 64) bytes (Some place) → is_default_at bytes place ≡ true
    → start ≡ min (name.start + (place + 2)) (2 ^ 64 - 1) → size ≡ name.size - (place + 2)
    → SplitName bytes name (record { start = name.start; size = place }) (record { start = start; size = size })
split_name bytes name place start size first default from sized =
    let below : place + 2 ≤ length bytes = two_within bytes place default in
    record {
      place = place;
      sign = sign_first bytes place first;
      is_default = default;
      base_held = λ buffer held. base_part buffer held below;
      version_held = λ buffer held. version_part buffer held below;
    }
  where
    two_within : (bytes : List ℕ) (place : ℕ) → is_default_at bytes place ≡ true → place + 2 ≤ length bytes
    two_within bytes place default = grind (arith, nat_tests, get_or_past bytes (place + 1) 0)

    base_part : (buffer : List ℕ) → HoldsText buffer name bytes → place + 2 ≤ length bytes → HoldsText buffer (record { start = name.start; size = place }) (take place bytes)
    base_part buffer held below =
        let part = holds_part buffer name bytes 0 place held (omega arith) in
        record { within = omega (arith, part.within); fits = omega (arith, part.fits); bytes_are = ap (λ k. slice buffer k place) (omega arith) ∙ part.bytes_are }

    version_part : (buffer : List ℕ) → HoldsText buffer name bytes → place + 2 ≤ length bytes → HoldsText buffer (record { start = start; size = size }) (drop (place + 2) bytes)
    version_part buffer held below =
        let whole = held_size buffer name bytes held in
        let part = holds_part buffer name bytes (place + 2) size held (omega arith) in
        let there : start ≡ name.start + (place + 2) = omega (arith, held.fits) in
        record {
          within = omega (arith, part.within);
          fits = omega (arith, part.fits);
          bytes_are = ap (λ k. slice buffer k size) there ∙ part.bytes_are ∙ take_all size (drop (place + 2) bytes) (omega (arith, length-drop (place + 2) bytes));
        }
