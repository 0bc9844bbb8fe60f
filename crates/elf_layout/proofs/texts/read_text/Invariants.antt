-- What was read of a file is its text so far, and the rest of the file follows it.
use Rattle.std.proofs.Common.{◌≡◌, ℕ, ◌≤◌, ◌<◌, List, ◌++◌, length, Some}
use Rattle.elf_layout.specs.Texts.{HasShortLines, IsWithinLine}
use Rattle.std.specs.Prelude.{vec_len}
use Rattle.elf_layout.proofs.texts.read_text.Given as goal

abbrev pub invariant-loop-turn : goal.invariant-loop-turn
invariant-loop-turn g l = record {
  few : vec_len l.text ≤ 67108864;
  room : 0 < length l.room;
  within : IsWithinLine l.text.items (length l.text.items) l.line;
  short : HasShortLines l.text.items (length l.text.items);
  read : (bytes : List ℕ) → g.I.Read.remaining l.initial.file ≡ Some bytes → (rest : List ℕ) × (g.I.Read.remaining l.file ≡ Some rest) × (bytes ≡ l.text.items ++ rest);
}
