-- A line that was held, by what was written after it.
use Rattle.std.proofs.Common.{◌≡◌, ℕ, ◌-◌, ◌≤◌, List, [], ◌∷◌, ◌++◌, length, take, Option, None, Some, refl, sym, ap, ◌∙◌, append-nil, append_assoc, arith}
use Rattle.std.specs.Io.KnownBytes.{Appends, append_known}
use Rattle.std.proofs.Math.Seq.{take-append_seam}
use Rattle.std.proofs.KnownBytes.{Appends-nil}
use Rattle.std.proofs.lemmas.List.{length-append}
use Rattle.elf_source.specs.Prelude.{EndsLine, FailsOutput, KeepsDeferred, OutState, SinkTakes, SinkTakesPrefix, before_text}
use Rattle.elf_source.specs.declared.holding_sink.DeferredLine.{DeferredLine}
use Rattle.elf_source.specs.declared.faults.OutFault.{OutFault}
use Rattle.elf_source.proofs.PutsLaws.{SinkTakes-then}

-- two lists that end in equally long parts begin alike
alike : (w x back line : List ℕ) → w ++ back ≡ x ++ line → length back ≡ length line → w ≡ x
alike w x back line same many =
    let sized : length w ≡ length x = omega (arith, ap length same, length-append w back, length-append x line, many) in
    sym (take-append_seam w back) ∙ (ap (λ l. take (length w) l) same ∙ (ap (λ n. take n (x ++ line)) sized ∙ take-append_seam x line))

-- what was taken back was the line
back_again : (a b c d : Option (List ℕ)) (line back : List ℕ) → Appends a b line → Appends b c [] → c ≡ append_known d back → length back ≡ length line → Appends a d []
back_again None b c d line back p q is many = tt
back_again (Some x) None c d line back p q is many = absurd p
back_again (Some x) (Some y) None d line back p q is many = absurd q
back_again (Some x) (Some y) (Some z) None line back p q is many = absurd (cc)
back_again (Some x) (Some y) (Some z) (Some w) line back p q is many =
    let same : z ≡ w ++ back = cc in
    alike w x back line (sym same ∙ (q ∙ (append-nil y ∙ p))) many ∙ sym (append-nil x)

none_of : (bytes : List ℕ) → length bytes ≡ 0 → bytes ≡ []
none_of [] none = refl
none_of (byte ∷ bytes) none = absurd (cc)

-- nothing is held back of an output that failed
pub broken_takes : (old new : OutState) (fault : OutFault) → FailsOutput old new fault → SinkTakes old new []
broken_takes old new fault p = record {
  appends = rw p.taken (Appends-nil old.taken);
  counts = omega (arith, p.written, old.fits);
  still = λ none. p.held;
  room = p.room;
}

module _ (began mid old : OutState) (line : List ℕ) (held : DeferredLine) (p : KeepsDeferred began mid line held) where
  -- the line is taken
  line_taken : SinkTakes began mid line
  line_taken = record {
    appends = p.appends;
    counts = omega (arith, p.counts, p.start, p.few);
    still = λ none. p.holds ∙ omega (arith, none);
    room = p.room;
  }

  -- at least its bytes are held, if nothing was written after it
  pub enough_held : (bytes : List ℕ) → SinkTakes mid old bytes → old.written ≡ held.start → held.start - held.before ≤ old.held
  enough_held bytes q is =
      let none : length bytes ≡ 0 = omega (arith, q.counts, p.counts, p.few, is) in
      omega (arith, q.still none, p.holds, p.start, p.before)

  -- it comes before what was written after it
  pub line_ends : (new : OutState) (bytes : List ℕ) → SinkTakes mid old bytes → EndsLine held old new → SinkTakes began new (before_text line bytes)
  line_ends new [] q ends =
      let is : old.written ≡ held.start = omega (arith, q.counts, p.counts, mid.fits) in
      let back = ends.back is in
      let many : length back.back ≡ length line = omega (arith, back.many, p.start, p.before) in
      record {
        appends = back_again began.taken mid.taken old.taken new.taken line back.back p.appends q.appends back.bytes many;
        counts = omega (arith, back.counts, p.before, began.fits);
        still = λ none. omega (arith, back.held, q.still refl, p.holds, p.start, p.before);
        room = back.room ∙ (q.room ∙ p.room);
      }
  line_ends new (byte ∷ bytes) q ends =
      let more : old.written ≡ held.start → ⊥ = λ is. omega (arith, q.counts, p.counts, p.few, is) in
      rw (ends.stays more) (SinkTakes-then line (byte ∷ bytes) line_taken q)

  -- a prefix of a text after it
  pub line_front : (new : OutState) (text : List ℕ) → SinkTakesPrefix mid old text → EndsLine held old new → SinkTakesPrefix began new (before_text line text)
  line_front new text q ends = by_front q.front refl
    where
      by_front : (front : List ℕ) → q.front ≡ front → SinkTakesPrefix began new (before_text line text)
      by_front [] is = record {
        front = [];
        rest = before_text line text;
        split = refl;
        takes = line_ends new [] (rw is at q.takes) ends;
      }
      by_front (byte ∷ bytes) is =
          let split : text ≡ (byte ∷ bytes) ++ q.rest = q.split ∙ ap (λ l. l ++ q.rest) is in
          rw split (record {
            front = line ++ (byte ∷ bytes);
            rest = q.rest;
            split = sym (append_assoc line (byte ∷ bytes) q.rest);
            takes = line_ends new (byte ∷ bytes) (rw is at q.takes) ends;
          })

  -- the output failed, or not, as before
  pub line_fails : (new : OutState) (bytes : List ℕ) → SinkTakes mid old bytes → EndsLine held old new → new.failed ≡ old.failed
  line_fails new [] q ends =
      let is : old.written ≡ held.start = omega (arith, q.counts, p.counts, mid.fits) in
      (ends.back is).failed
  line_fails new (byte ∷ bytes) q ends =
      let more : old.written ≡ held.start → ⊥ = λ is. omega (arith, q.counts, p.counts, p.few, is) in
      ap (λ (w : OutState). w.failed) (ends.stays more)
