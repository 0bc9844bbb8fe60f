-- Known bytes over several iterations of a loop that writes.
use Rattle.std.proofs.Common.{◌≡◌, ℕ, ◌+◌, ◌^◌, ◌-◌, ◌≤◌, List, Option, sym, ap, ◌∙◌, min, length, take, drop, subst}
use Rattle.std.specs.Io.KnownBytes.{Appends}
use Rattle.std.proofs.KnownBytes.{Appends-trans}
use Rattle.std.proofs.Math.Seq.{take-add}
use Rattle.std.proofs.lemmas.List.{take-append-drop, length-take-le, take_rest}
use Rattle.elf_source.specs.Output.{OutState, SinkTakesPrefix}

-- the first d bytes, and then n of the remaining ones
pub Appends_turn : (a b c : Option (List ℕ)) (bytes : List ℕ) (d n : ℕ) → Appends a b (take d bytes) → Appends b c (take n (take (length bytes - d) (drop d bytes))) → Appends a c (take (d + n) bytes)
Appends_turn a b c bytes d n p q =
    let left = subst (λ (l : List ℕ). Appends b c (take n l)) (take_rest bytes d) q in
    subst (Appends a c) (sym (take-add d n bytes)) (Appends-trans a b c _ _ p left)

-- a sink that took the first n bytes
pub SinkTakesPrefix-some : (old new : OutState) (bytes : List ℕ) (n : ℕ) → n ≤ length bytes → Appends old.taken new.taken (take n bytes) → new.written ≡ min (old.written + n) (2 ^ 128 - 1)
    → (n ≡ 0 → new.held ≡ old.held) → new.room ≡ old.room → SinkTakesPrefix old new bytes
SinkTakesPrefix-some old new bytes n within p count same room = record {
  front = take n bytes;
  rest = drop n bytes;
  split = sym (take-append-drop n bytes);
  takes = record { appends = p; counts = count ∙ ap (λ k. min (old.written + k) (2 ^ 128 - 1)) (sym (length-take-le n bytes within)); still = λ none. same (sym (length-take-le n bytes within) ∙ none); room = room };
}
