use Rattle.std.proofs.Common.{◌≡◌, ◌+◌, ◌≤◌, [], ◌∷◌, ◌++◌, drop}
use Rattle.arrayvec.specs.ArrayVec.{array_vec_len}
use Rattle.elf_model.specs.Fields.{string_text}
use Rattle.elf_format.proofs.objects.put_quoted.Given as goal

-- what is appended, and the bytes that are left, are the string
abbrev pub invariant-loop-byte : goal.invariant-loop-byte
invariant-loop-byte l = record {
  items : l.line.items ++ string_text (drop l.byte-index l.text) ≡ l.fn.line.items ++ 34 ∷ [] ++ string_text l.text;
  length : array_vec_len l.line ≤ array_vec_len l.fn.line + 1 + (l.byte-index + l.byte-index);
}
