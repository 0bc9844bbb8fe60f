-- A section in one pass, step by step.
use Rattle.std.proofs.Common.{◌≡◌, ℕ, ◌+◌, ◌-◌, ◌<◌, ◌≤◌, List, [], ◌∷◌, ◌++◌, length, take, drop, min, All, Result, Ok, Err, refl, sym, ap, ◌∙◌, subst, arith, length-drop, length-take-le, length-append, take-take, append-nil}
use Rattle.std.proofs.lemmas.List.{take_all, drop-take, drop-drop, take-append-drop, nil_from_length}
use Rattle.std.proofs.lemmas.List.Elements.{All-nil, All-cons, All-head, All-tail}
use Rattle.std.proofs.lemmas.Slice.{take-put_mid}
use borrow.Rule.Slice.PartMut.{mid_of, put_mid}
use Rattle.elf_model.specs.Prelude.{AllInside, Fails, IsInside, Put, SectionChange, StoredBytes, clipped, patched, patches_of, put, slice}
use Rattle.elf_model.specs.declared.causes.Refusal.{Refusal}
use Rattle.elf_model.proofs.PatchLaws.{window_put, length_kept, final_below, kept_above}
use Rattle.elf_source.specs.Prelude.{CountedState, OutState, SinkTakes, SinkTakesPrefix}
use Rattle.elf_source.proofs.PutsLaws.{SinkTakes-nothing, SinkTakes-then, SinkTakesPrefix-then, SinkTakesPrefix-more, SinkTakesPrefix-all}
use Rattle.elf_table.specs.Prelude.{IsUnlimitedReadFault, stop_of}
use Rattle.elf_table.specs.declared.fault.Fault.{Fault}
use Rattle.elf_table.specs.declared.run_fault.RunFault.{RunFault}
use Rattle.elf_table.specs.declared.fault.Fault.TheVariants.{Refused as Refuses, Source as Unread}
use Rattle.elf_reloc.specs.Prelude.{FindsEntry, IsPartlyWritten, OffsetsAscend, PendingState, UnderWay, UnreadSays, WritesBytes, changes_left}
use Rattle.elf_reloc.specs.declared.entry.ApplyTarget.{ApplyTarget as TargetCode}
use Rattle.elf_reloc.specs.declared.walk.RelocationWalk.{RelocationWalk}
use Rattle.elf_reloc.proofs.WindowSteps.{and_is, window_more, window_stopped, take_more}
use Rattle.elf_model.proofs.Slices.{slice-size, slice-slice, slice-rest}

pub slice_split : (now : List ℕ) (low n k m : ℕ) → n ≡ k + m → slice now low n ≡ slice now low k ++ slice now (low + k) m
slice_split now low n k m e =
    ap (λ j. take j (drop low now)) e ∙ (take_more (drop low now) k m ∙ ap (λ l. take k (drop low now) ++ take m l) (drop-drop k low now))

same_behind : (base now : List ℕ) (low high : ℕ) → low ≤ high → drop low now ≡ drop low base → drop high now ≡ drop high base
same_behind base now low high le h =
    let whole : high ≡ low + (high - low) = omega arith in
    ap (λ k. drop k now) whole ∙ (sym (drop-drop (high - low) low now) ∙ (ap (drop (high - low)) h ∙ (drop-drop (high - low) low base ∙ ap (λ k. drop k base) (sym whole))))

-- a part of what is held
pub front_part : (base now : List ℕ) (h : PendingState) (k : ℕ) → k ≤ length h.bytes → IsPartlyWritten base now h → take k h.bytes ≡ slice now h.low k
front_part base now h k few midway = ap (take k) midway.held ∙ take-take k (length h.bytes) (drop h.low now) few

-- its prefix is discarded
pub midway_skip : (base now : List ℕ) (h after : PendingState) (k : ℕ) → k ≤ length h.bytes → after.low ≡ h.low + k → after.bytes ≡ drop k h.bytes → IsPartlyWritten base now h → IsPartlyWritten base now after
midway_skip base now h after k few low bytes midway =
    let long = length-drop k h.bytes in
    let rest = slice-rest now h.low (length h.bytes) k few in
    record { long = midway.long; within = grind arith; held = grind arith; rest = grind arith }

-- nothing is held: what comes after is unchanged
none_rest : (base now : List ℕ) (h : PendingState) → h.bytes ≡ [] → IsPartlyWritten base now h → drop h.low now ≡ drop h.low base
none_rest base now h none midway = grind (arith, midway.rest)

pub midway_jump : (base now : List ℕ) (h after : PendingState) → h.bytes ≡ [] → after.bytes ≡ [] → h.low ≤ after.low → after.low ≤ length base → IsPartlyWritten base now h → IsPartlyWritten base now after
midway_jump base now h after none nothing le within midway =
    let behind = same_behind base now h.low after.low le (none_rest base now h none midway) in
    record { long = midway.long; within = grind arith; held = grind arith; rest = grind arith }

pub copied : (file : List ℕ) (at size : ℕ) (now : List ℕ) (h : PendingState) (m : ℕ) → h.bytes ≡ [] → h.low + m ≤ size → IsPartlyWritten (slice file at size) now h → slice now h.low m ≡ slice file (at + h.low) m
copied file at size now h m none fits midway =
    ap (take m) (none_rest (slice file at size) now h none midway) ∙ slice-slice file at size h.low m fits

-- more is read
pub midway_read : (file : List ℕ) (at size : ℕ) (now : List ℕ) (h after : PendingState) (m : ℕ) (read : List ℕ) → at + size ≤ length file → h.low + length h.bytes + m ≤ size
    → after.low ≡ h.low → after.bytes ≡ h.bytes ++ read → read ≡ slice file (at + (h.low + length h.bytes)) m → IsPartlyWritten (slice file at size) now h → IsPartlyWritten (slice file at size) now after
midway_read file at size now h after m read long fits low bytes is midway =
    let sized = slice-size file at size long in
    let part = slice-slice file at size (h.low + length h.bytes) m fits in
    let read_long_name : length read ≡ m = ap length is ∙ slice-size file (at + (h.low + length h.bytes)) m (omega (arith, fits, long)) in
    let all_long = length-append h.bytes read in
    let both = slice_split now h.low (length h.bytes + m) (length h.bytes) m refl in
    let rest = same_behind (slice file at size) now (h.low + length h.bytes) (h.low + length h.bytes + m) (omega arith) midway.rest in
    record { long = midway.long; within = grind arith; held = grind arith; rest = grind arith }

pub midway_fill : (file : List ℕ) (at size : ℕ) (now : List ℕ) (h : PendingState) (low count width : ℕ) (bytes out : List ℕ) → record { low = low; bytes = take count bytes } ≡ h → count ≤ width → width ≤ length bytes
    → length out ≡ length (mid_of count (width - count) bytes) → out ≡ take (length (mid_of count (width - count) bytes)) (drop (at + (low + count)) file)
    → at + size ≤ length file → h.low + width ≤ size → IsPartlyWritten (slice file at size) now h → IsPartlyWritten (slice file at size) now (record { low = low; bytes = take width (put_mid count (width - count) bytes out) })
midway_fill file at size now h low count width bytes out view less few same is long fits midway =
    let m : ℕ = width - count in
    let some : length (mid_of count m bytes) ≡ m = length-take-le m (drop count bytes) (omega (arith, length-drop count bytes)) in
    let out_long : length out ≡ m = same ∙ some in
    let low_is : low ≡ h.low = ap (λ (x : PendingState). x.low) view in
    let bytes_is : take count bytes ≡ h.bytes = ap (λ (x : PendingState). x.bytes) view in
    let counted : length h.bytes ≡ count = sym (ap length bytes_is) ∙ length-take-le count bytes (omega (arith, less, few)) in
    let place : low + count ≡ h.low + length h.bytes = omega (arith, low_is, counted) in
    midway_read file at size now h (record { low = low; bytes = take width (put_mid count m bytes out) }) m out long (omega (arith, counted, fits, less)) low_is
    (take-put_mid count m bytes out width (omega (arith, out_long, less)) (omega (arith, less, few)) ∙ ap (λ l. l ++ out) bytes_is)
    (is ∙ (ap (λ n. take n (drop (at + (low + count)) file)) some ∙ ap (λ i. slice file (at + i) m) place)) midway

-- one patch
one_inside : (base : List ℕ) (patch : StoredBytes) → IsInside (length base) patch → AllInside (length base) (patch ∷ [])
one_inside base patch h = All-cons (IsInside (length base)) patch [] h (All-nil (IsInside (length base)))

length_put : (base : List ℕ) (patch : StoredBytes) → IsInside (length base) patch → length (put patch base) ≡ length base
unfolding patched
length_put base patch h = length_kept (patch ∷ []) base (one_inside base patch h)

drop_put : (base : List ℕ) (patch : StoredBytes) (high : ℕ) → IsInside (length base) patch → patch.at + length patch.bytes ≤ high → drop high (put patch base) ≡ drop high base
unfolding patched
drop_put base patch high h le = kept_above (patch ∷ []) base high (one_inside base patch h) (All-cons (λ p. p.at + length p.bytes ≤ high) patch [] le (All-nil (λ p. p.at + length p.bytes ≤ high)))

take_put : (base : List ℕ) (patch : StoredBytes) (low : ℕ) → IsInside (length base) patch → low ≤ patch.at → take low (put patch base) ≡ take low base
unfolding patched
take_put base patch low h le = final_below (patch ∷ []) base low (one_inside base patch h) (All-cons (λ p. low ≤ p.at) patch [] le (All-nil (λ p. low ≤ p.at)))

pub midway_patch : (base now : List ℕ) (h after : PendingState) (patch : StoredBytes) → h.low ≤ patch.at → patch.at + length patch.bytes ≤ h.low + length h.bytes
    → after.low ≡ h.low → after.bytes ≡ put (clipped h.low (length h.bytes) patch) h.bytes → length after.bytes ≡ length h.bytes → IsPartlyWritten base now h → IsPartlyWritten base (put patch now) after
midway_patch base now h after patch from fits low bytes same midway =
    let inside : IsInside (length now) patch = grind arith in
    let long = length_put now patch inside in
    let window = window_put patch now h.low (length h.bytes) inside (grind arith) in
    let behind = drop_put now patch (h.low + length h.bytes) inside fits in
    record { long = grind arith; within = grind arith; held = grind arith; rest = grind arith }

-- what is held ends before an offset: all of it was written, and what follows it up to there is the
-- file's
module _ (file : List ℕ) (at size : ℕ) (now : List ℕ) (h after : PendingState) (k end low : ℕ) (is : k ≡ min (end - h.low) (length h.bytes)) (le : h.low ≤ end) (at_low : after.low ≡ h.low + k) (bytes : after.bytes ≡ drop k h.bytes) (there : low ≡ after.low) (more : low < end) where
  pub all_gone : after.bytes ≡ []
  all_gone = let long : length after.bytes ≡ length h.bytes - k = ap length bytes ∙ length-drop k h.bytes in nil_from_length after.bytes (omega (arith, long, is, at_low, there, more))

  pub gone_text : end ≤ size → IsPartlyWritten (slice file at size) now h → take k h.bytes ++ slice file (at + low) (end - low) ≡ slice now h.low (end - h.low)
  gone_text within midway =
      let few : k ≤ length h.bytes = omega (arith, is) in
      let skipped : IsPartlyWritten (slice file at size) now after = midway_skip (slice file at size) now h after k few at_low bytes midway in
      let behind : slice file (at + low) (end - low) ≡ slice now (h.low + k) (end - low) =
      ap (λ i. slice file (at + i) (end - low)) there ∙ (sym (copied file at size now after (end - low) all_gone (omega (arith, there, within, more)) skipped) ∙ ap (λ i. slice now i (end - low)) at_low) in
      ap (λ l. l ++ slice file (at + low) (end - low)) (front_part (slice file at size) now h k few midway)
      ∙ (ap (λ l. slice now h.low k ++ l) behind ∙ sym (slice_split now h.low (end - h.low) k (end - low) (omega (arith, there, at_low, more))))

-- what is written is a prefix, and then more
pub writes_then : (X : Type 0) (a b c : OutState) (result : Result X RunFault) (xs ys : List ℕ) → SinkTakes a b xs → WritesBytes b c result ys → WritesBytes a c result (xs ++ ys)
writes_then X a b c result xs ys before this = grind (arith, SinkTakes-then {a = a} {b = b} {c = c} xs ys, SinkTakesPrefix-then {a = a} {b = b} {c = c} xs ys)

pub writes_as : (X : Type 0) (a b : OutState) (result : Result X RunFault) (xs ys : List ℕ) → xs ≡ ys → WritesBytes a b result xs → WritesBytes a b result ys
writes_as X a b result xs ys e h = rw e at h

pub front_more : (a b : OutState) (text xs ys : List ℕ) → text ≡ xs ++ ys → SinkTakesPrefix a b xs → SinkTakesPrefix a b text
front_more a b text xs ys e h = rw e (SinkTakesPrefix-more xs ys h)

-- all of it was written, and then a read failed
pub unread_after : (X : Type 0) (a b : OutState) (c d : CountedState) (fault : Fault) (result : Result X RunFault) (text : List ℕ) → result ≡ Err (stop_of fault) → UnreadSays c d fault → SinkTakes a b text → WritesBytes a b result text
unread_after X a b c d fault result text is un h = grind (arith, SinkTakesPrefix-all {a = a} {b = b} text [], append-nil text)

-- patches that never decrease
rises_less : (low high : ℕ) (patches : List StoredBytes) → low ≤ high → OffsetsAscend high patches → OffsetsAscend low patches
unfolding OffsetsAscend
rises_less low high [] le h = tt
rises_less low high (p ∷ ps) le h = let first = h.0 in (omega (arith, le, first), h.1)

rises_all : (low : ℕ) (patches : List StoredBytes) → OffsetsAscend low patches → All (λ patch. low ≤ patch.at) patches
unfolding OffsetsAscend
rises_all low [] h = All-nil (λ patch. low ≤ patch.at)
rises_all low (patch ∷ patches) h = All-cons (λ p. low ≤ p.at) patch patches h.0 (rises_all low patches (rises_less low patch.at patches h.0 h.1))

rises_first : (low : ℕ) (patch : StoredBytes) (patches : List StoredBytes) → OffsetsAscend low (patch ∷ patches) → (low ≤ patch.at) × (OffsetsAscend patch.at patches × OffsetsAscend patch.at (patch ∷ patches))
unfolding OffsetsAscend
rises_first low patch patches h = (h.0, (h.1, (omega arith, h.1)))

-- equal prefixes have equal parts
fronts_take : (a b : List ℕ) (low k : ℕ) → take (low + k) a ≡ take (low + k) b → take low a ≡ take low b
fronts_take a b low k e = sym (take-take low (low + k) a (omega arith)) ∙ (ap (take low) e ∙ take-take low (low + k) b (omega arith))

fronts_slice : (a b : List ℕ) (low k : ℕ) → take (low + k) a ≡ take (low + k) b → slice a low k ≡ slice b low k
fronts_slice a b low k e = sym (drop-take low k a) ∙ (ap (drop low) e ∙ drop-take low k b)

module _ (base text : List ℕ) (h : PendingState) (left : List SectionChange) (a b : OutState) (known : UnderWay base text h left a b) where
  now_inside : AllInside (length known.now) known.patches
  now_inside = let long : length known.now ≡ length base = known.midway.long in rw long known.inside

  -- what comes before the first patch that is left is final
  final_front : (k : ℕ) → All (λ patch. k ≤ patch.at) known.patches → take k known.now ≡ take k text
  final_front k all = sym (final_below known.patches known.now k now_inside all) ∙ ap (take k) known.ends

  pub underway_front : SinkTakesPrefix a b text
  underway_front =
      let same : take h.low known.now ≡ take h.low text = final_front h.low (rises_all h.low known.patches known.rises) in
      let P : List ℕ → Type 0 = λ t. SinkTakes a b t in
      record { front = take h.low text; rest = drop h.low text; split = sym (take-append-drop h.low text); takes = subst P same known.takes }

  module _ (patch : StoredBytes) (rest : List SectionChange) (e : left ≡ Put patch ∷ rest) where
    more_are : (more : List StoredBytes) × (patches_of rest ≡ Ok more) × (known.patches ≡ patch ∷ more)
    unfolding patches_of
    more_are = and_is patch (patches_of rest) known.patches (sym (ap patches_of e) ∙ known.are)

    rises_so : OffsetsAscend h.low (patch ∷ more_are.0)
    rises_so = let P : List StoredBytes → Type 0 = λ ps. OffsetsAscend h.low ps in subst P more_are.2 known.rises

    inside_so : AllInside (length base) (patch ∷ more_are.0)
    inside_so = let P : List StoredBytes → Type 0 = λ ps. AllInside (length base) ps in subst P more_are.2 known.inside

    pub underway_first : h.low ≤ patch.at
    underway_first = (rises_first h.low patch more_are.0 rises_so).0

    pub underway_next : (after : PendingState) (c : OutState) → after.low ≡ patch.at → SinkTakes b c (slice known.now h.low (patch.at - h.low))
        → IsPartlyWritten base (put patch known.now) after → UnderWay base text after rest a c
    unfolding patched
    underway_next after c low taken midway =
        let from : h.low ≤ patch.at = underway_first in
        let long : length known.now ≡ length base = known.midway.long in
        let first : IsInside (length base) patch = All-head (IsInside (length base)) patch more_are.0 inside_so in
        let inside : IsInside (length known.now) patch = rw long first in
        let P : ℕ → Type 0 = λ k. OffsetsAscend k more_are.0 in
        let Q : List ℕ → Type 0 = λ t. SinkTakes a c t in
        let step : patch.at ≡ h.low + (patch.at - h.low) = omega arith in
        let all : SinkTakes a c (take patch.at known.now) = window_more a b c known.now h.low (patch.at - h.low) patch.at step known.takes taken in
        record {
          now = put patch known.now;
          midway = midway;
          patches = more_are.0;
          are = more_are.1;
          inside = All-tail (IsInside (length base)) patch more_are.0 inside_so;
          rises = subst P (sym low) (rises_first h.low patch more_are.0 rises_so).1.0;
          ends = sym (ap (λ ps. patched ps known.now) more_are.2) ∙ known.ends;
          takes = subst Q (sym (take_put known.now patch patch.at inside (omega arith)) ∙ ap (λ k. take k (put patch known.now)) (sym low)) all;
        }

    pub underway_stopped : (X : Type 0) (c : OutState) (fault : RunFault) → WritesBytes {X = X} b c (Err fault) (slice known.now h.low (patch.at - h.low)) → WritesBytes {X = X} a c (Err fault) text
    underway_stopped X c fault this =
        let from : h.low ≤ patch.at = underway_first in
        let step : patch.at ≡ h.low + (patch.at - h.low) = omega arith in
        let P : List StoredBytes → Type 0 = λ ps. OffsetsAscend patch.at ps in
        let all : take patch.at known.now ≡ take patch.at text = final_front patch.at (rises_all patch.at known.patches (subst P (sym more_are.2) (rises_first h.low patch more_are.0 rises_so).1.1)) in
        let same : take (h.low + (patch.at - h.low)) known.now ≡ take (h.low + (patch.at - h.low)) text = ap (λ k. take k known.now) (sym step) ∙ (all ∙ ap (λ k. take k text) step) in
        let Q : List ℕ → Type 0 = λ t. SinkTakes a b t in
        window_stopped X a b c text h.low (patch.at - h.low) fault (subst Q (fronts_take known.now text h.low (patch.at - h.low) same) known.takes)
        (writes_as X b c (Err fault) _ _ (fronts_slice known.now text h.low (patch.at - h.low) same) this)

  -- no change is left: the section as it is now is the text
  now_is : left ≡ [] → known.now ≡ text
  unfolding patches_of patched
  now_is e =
      let none : Ok [] ≡ Ok known.patches = sym (ap patches_of e) ∙ known.are in
      let same : known.patches ≡ [] = cc in
      sym (ap (λ ps. patched ps known.now) same) ∙ known.ends

  pub underway_end : (X : Type 0) (size : ℕ) (c : OutState) (result : Result X RunFault) → left ≡ [] → length base ≡ size → h.low ≤ size → WritesBytes b c result (slice known.now h.low (size - h.low)) → WritesBytes a c result text
  underway_end X size c result e sized le this =
      let step : size ≡ h.low + (size - h.low) = omega arith in
      let long : length known.now ≡ size = known.midway.long ∙ sized in
      writes_as X a c result _ _ (sym (take_more known.now h.low (size - h.low)) ∙ (ap (λ k. take k known.now) (sym step) ∙ (take_all size known.now (omega (arith, long)) ∙ now_is e)))
      (writes_then X a b c result (take h.low known.now) (slice known.now h.low (size - h.low)) known.takes this)

  pub underway_failed : (X : Type 0) (fault : Fault) (result : Result X RunFault) (rest : (refusal : Refusal) → fault ≡ Refuses refusal → (more : List SectionChange) × (left ≡ Fails refusal ∷ more)) → result ≡ Err (stop_of fault) → WritesBytes a b result text
  unfolding patches_of
  underway_failed X (Refuses refusal) result rest is =
      let found = rest refusal refl in
      let wrong : Err refusal ≡ Ok known.patches = sym (ap patches_of found.1) ∙ known.are in
      absurd (cc)
  underway_failed X (Unread fault at) result rest is = let P : Result X RunFault → Type 0 = λ r. WritesBytes a b r text in subst P (sym is) underway_front

-- the start
pub underway_start : (base : List ℕ) (h : PendingState) (left : List SectionChange) (patches : List StoredBytes) (a : OutState) → h.low ≡ 0 → h.bytes ≡ [] → patches_of left ≡ Ok patches → AllInside (length base) patches → OffsetsAscend 0 patches
    → UnderWay base (patched patches base) h left a a
underway_start base h left patches a low none are inside rises =
    let zero_long : length h.bytes ≡ 0 = ap length none in
    let P : ℕ → Type 0 = λ k. OffsetsAscend k patches in
    let Q : ℕ → Type 0 = λ k. SinkTakes a a (take k base) in
    record {
      now = base;
      midway = record { long = refl; within = omega (arith, zero_long, low); held = none ∙ ap (λ n. slice base h.low n) (sym zero_long); rest = refl };
      patches = patches;
      are = are;
      inside = inside;
      rises = subst P (sym low) rises;
      ends = refl;
      takes = subst Q (sym low) (SinkTakes-nothing a);
    }

-- a fault of the walk, by the change that it corresponds to
pub finds_refusal : (file : List ℕ) (target : TargetCode) (old new : RelocationWalk) (fault : Fault) (a b : CountedState) → IsUnlimitedReadFault a b fault → FindsEntry file target old new (Err fault) → (refusal : Refusal) → fault ≡ Refuses refusal → (more : List SectionChange) × (changes_left file target old ≡ Fails refusal ∷ more)
finds_refusal file target old new fault a b wanted finds refusal e = grind arith
