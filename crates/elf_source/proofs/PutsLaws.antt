-- The result of consecutive puts.
use Rattle.std.proofs.Common.{ℕ, List, [], ◌++◌, sym, ap, refl, ◌∙◌, append_assoc, length-append, arith}
use Rattle.std.proofs.KnownBytes.{Appends-nil, Appends-trans}
use Rattle.elf_source.specs.Output.{OutState, SinkTakes, SinkTakesPrefix}

-- nothing was put
pub SinkTakes-nothing : (a : OutState) → SinkTakes a a []
SinkTakes-nothing a = record { appends = Appends-nil a.taken; counts = omega (arith, a.fits); still = λ none. refl; room = refl }

-- all of some bytes, and then all of others
pub SinkTakes-then : {a b c : OutState} (xs ys : List ℕ) → SinkTakes a b xs → SinkTakes b c ys → SinkTakes a c (xs ++ ys)
SinkTakes-then {a} {b} {c} xs ys p q = record {
  appends = Appends-trans a.taken b.taken c.taken xs ys p.appends q.appends;
  counts = omega (arith, p.counts, q.counts, length-append xs ys);
  still = λ none. q.still (omega (arith, length-append xs ys, none)) ∙ p.still (omega (arith, length-append xs ys, none));
  room = q.room ∙ p.room;
}

-- all of some bytes, and then a prefix of others
pub SinkTakesPrefix-then : {a b c : OutState} (xs ys : List ℕ) → SinkTakes a b xs → SinkTakesPrefix b c ys → SinkTakesPrefix a c (xs ++ ys)
SinkTakesPrefix-then xs ys p q = record {
  front = xs ++ q.front;
  rest = q.rest;
  split = ap (λ zs. xs ++ zs) q.split ∙ sym (append_assoc xs q.front q.rest);
  takes = SinkTakes-then xs q.front p q.takes;
}

-- a prefix of some bytes is one of more bytes
pub SinkTakesPrefix-more : {a b : OutState} (xs ys : List ℕ) → SinkTakesPrefix a b xs → SinkTakesPrefix a b (xs ++ ys)
SinkTakesPrefix-more xs ys p = record {
  front = p.front;
  rest = p.rest ++ ys;
  split = ap (λ zs. zs ++ ys) p.split ∙ append_assoc p.front p.rest ys;
  takes = p.takes;
}

-- all of some bytes is a prefix of more
pub SinkTakesPrefix-all : {a b : OutState} (xs ys : List ℕ) → SinkTakes a b xs → SinkTakesPrefix a b (xs ++ ys)
SinkTakesPrefix-all xs ys p = record { front = xs; rest = ys; split = refl; takes = p }
