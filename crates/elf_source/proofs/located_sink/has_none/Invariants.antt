use Rattle.std.proofs.Common.{◌≡◌, ℕ, ◌<◌, get_or, IsTrue}
use Rattle.elf_source.proofs.located_sink.has_none.Given as goal

-- if none so far is a newline, none of them is
abbrev pub invariant-loop-byte : goal.invariant-loop-byte
invariant-loop-byte l = (k : ℕ) → IsTrue l.none → k < l.byte-index → get_or l.piece k 0 ≡ 10 → ⊥
