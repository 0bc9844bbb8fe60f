-- The result of reads in turns.
use Rattle.std.proofs.Common.{◌≡◌, ℕ, ◌+◌, ◌-◌, ◌≤◌, ◌<◌, List, [], ◌∷◌, ◌++◌, length, take, drop, sym, ap, ◌∙◌, Result, Ok, Err, IfErr, refl, arith, length-append, length-drop, length-take-le}
use Rattle.std.proofs.Math.Seq.{take-add, take-append-add, take-length}
use Rattle.std.proofs.lemmas.List.{drop-drop, take-append-le}
use Rattle.elf_source.proofs.OnwardLaws.{made_then}
use Rattle.elf_source.specs.Prelude.{AreRests, IsHonest, IsSourceFault, SourceState, Turns, TurnsWithin}
use Rattle.elf_source.specs.declared.faults.SourceFault.TheVariants.{Device, Ended}
use Rattle.elf_source.specs.declared.faults.SourceFault.{SourceFault}
use borrow.Rule.Slice.PartMut.{put_mid, post_of, mid_of, same_len_mid}

-- the first bytes of a buffer, and some of those that a turn wrote after them
pub take-put_part : (got count room : ℕ) (out part : List ℕ) → got ≤ length out → count ≤ length part
    → take (got + count) (put_mid got room out part) ≡ take got out ++ take count part
take-put_part got count room out part within some =
    let front = length-take-le got out within in
    ap (λ n. take (n + count) (put_mid got room out part)) (sym front)
    ∙ take-append-add (take got out) (part ++ post_of got room out) count
    ∙ ap (λ rest. take got out ++ rest) (take-append-le count part (post_of got room out) some)

-- the first bytes of a range of a file, and those of a turn that follow them
pub filled_then : (file out part : List ℕ) (at got count room : ℕ) → got ≤ length out → count ≤ length part
    → take got out ≡ take got (drop at file) → take count part ≡ take count (drop (at + got) file)
    → take (got + count) (put_mid got room out part) ≡ take (got + count) (drop at file)
filled_then file out part at got count room within some before turn =
    take-put_part got count room out part within some
    ∙ ap (λ front. front ++ take count part) before
    ∙ ap (λ rest. take got (drop at file) ++ rest) (turn ∙ ap (take count) (sym (drop-drop got at file)))
    ∙ sym (take-add got count (drop at file))

-- a source whose reads fail only with `Device` while it is honest isn't honest at any other fault
pub ended-is_known : (old new : SourceState) (result : Result (Unit {0}) SourceFault) → (result ≡ Err Device → ⊥)
    → (IsHonest new → IfErr result (λ fault. fault ≡ Device)) → IfErr result (IsSourceFault old new)
ended-is_known old new (Ok x) other fails = tt
ended-is_known old new (Err Device) other fails = absurd (other refl)
ended-is_known old new (Err Ended) other fails = λ honest. search fails

-- a turn returned no more bytes than there was room for
pub turn_within : (got count : ℕ) (out part : List ℕ) → got ≤ length out → length part ≡ length (mid_of got (length out - got) out)
    → count ≤ length (mid_of got (length out - got) out) → got + count ≤ length (put_mid got (length out - got) out part)
turn_within got count out part within same some =
    let room = length-take-le (length out - got) (drop got out) (omega (arith, length-drop got out)) in
    rw (same_len_mid got (length out - got) out part same) (omega (arith, room, within, some))

-- once there is no room left, all bytes are those of the range
pub filled_all : (got at n : ℕ) (out file : List ℕ) → got ≤ length out → length out ≤ got → length out ≡ n
    → take got out ≡ take got (drop at file) → out ≡ take n (drop at file)
filled_all got at n out file within most same filled =
    let is : got ≡ n = omega (arith, within, most, same) in
    sym (ap (λ (k : ℕ). take k out) (sym same) ∙ take-length out)
    ∙ ap (λ (k : ℕ). take k out) (sym is)
    ∙ filled
    ∙ ap (λ (k : ℕ). take k (drop at file)) is

-- no turn was taken
pub turns_none : {R : Type 0} → (one_turn : R → ℕ → ℕ → R → Type 0) (old new : R) (low high end most : ℕ) → new ≡ old → low ≤ high
    → Turns one_turn old new low high end most
turns_none one_turn old new low high end most same within = record { turns = []; made = same; rests = within; few = omega arith }

-- turns, and one more after them
rests_then : (low here high end n : ℕ) (turns : List (ℕ × ℕ)) → AreRests low here end turns → here ≤ high → here + n ≡ end
    → AreRests low high end (turns ++ (here, n) ∷ [])
rests_then low here high end n [] within less is = (within, is, less)
rests_then low here high end n (turn ∷ turns) rests less is = (rests.0, rests.1, rests_then turn.0 here high end n turns rests.2 less is)

pub turns_then : {R : Type 0} → (one_turn : R → ℕ → ℕ → R → Type 0) (a b c : R) (low here high end most n : ℕ)
    → Turns one_turn a b low here end most → one_turn b here n c → here ≤ high → here + n ≡ end
    → Turns one_turn a c low high end (most + 1)
turns_then one_turn a b c low here high end most n before turn less is = record {
  turns = before.turns ++ (here, n) ∷ [];
  made = made_then one_turn before.turns ((here, n) ∷ []) a b c before.made (c, turn, refl);
  rests = rests_then low here high end n before.turns before.rests less is;
  few = omega (arith, before.few, length-append before.turns ((here, n) ∷ []));
}

-- turns, in looser bounds
rests_more : (low here high end : ℕ) (turns : List (ℕ × ℕ)) → AreRests low here end turns → here ≤ high → AreRests low high end turns
rests_more low here high end [] within less = omega (arith, within, less)
rests_more low here high end (turn ∷ turns) rests less = (rests.0, rests.1, rests_more turn.0 here high end turns rests.2 less)

pub turns_more : {R : Type 0} → (one_turn : R → ℕ → ℕ → R → Type 0) (a b : R) (low here high end some most : ℕ)
    → Turns one_turn a b low here end some → here ≤ high → some ≤ most → Turns one_turn a b low high end most
turns_more one_turn a b low here high end some most before less more = record {
  turns = before.turns;
  made = before.made;
  rests = rests_more low here high end before.turns before.rests less;
  few = omega (arith, before.few, more);
}

-- turns, and one more into the rest of a buffer of n bytes
pub turn_after : {R : Type 0} → (one_turn : R → ℕ → ℕ → R → Type 0) (a b c : R) (at got n most high : ℕ) (out : List ℕ)
    → got ≤ length out → length out ≡ n → at + got ≤ high
    → Turns one_turn a b at (at + got) (at + n) most → one_turn b (at + got) (length (mid_of got (length out - got) out)) c
    → Turns one_turn a c at high (at + n) (most + 1)
turn_after one_turn a b c at got n most high out within same less before turn =
    let room : length (mid_of got (length out - got) out) ≡ length out - got = length-take-le (length out - got) (drop got out) (omega (arith, length-drop got out)) in
    turns_then one_turn a b c at (at + got) high (at + n) most (length (mid_of got (length out - got) out)) before turn less (omega (arith, room, within, same))

-- turns of a read, and its last one
pub turned_at : {R : Type 0} → (one_turn : R → ℕ → ℕ → R → Type 0) (a b c : R) (at got n interrupted : ℕ) (out : List ℕ)
    → got ≤ length out → length out ≡ n → interrupted < 64
    → Turns one_turn a b at (at + got) (at + n) (got + interrupted) → one_turn b (at + got) (length (mid_of got (length out - got) out)) c
    → got < n → TurnsWithin one_turn a c at n
turned_at one_turn a b c at got n interrupted out within same few before turn more =
    turns_more one_turn a c at (at + n) (at + n) (at + n) (got + interrupted + 1) (n + 64)
    (turn_after one_turn a b c at got n (got + interrupted) (at + n) out within same (omega (arith, within, same)) before turn)
    (omega arith) (omega (arith, few, more))
