use Rattle.std.proofs.Common.{◌≡◌, ◌≤◌, ◌*◌, ◌++◌, drop}
use Rattle.arrayvec.specs.ArrayVec.{array_vec_len}
use Rattle.elf_model.specs.Lines.{escaped}
use Rattle.elf_format.proofs.note_contents.escaped.Given as goal

-- the line and the bytes that are left are the text
abbrev pub invariant-loop-byte : goal.invariant-loop-byte
invariant-loop-byte l = record {
  items : l.line.items ++ escaped (drop l.byte-index l.text) ≡ escaped l.text;
  room : array_vec_len l.line ≤ 4 * l.byte-index;
}
