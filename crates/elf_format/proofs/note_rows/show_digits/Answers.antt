-- The encoder's digits are the bytes of the descriptor in hexadecimal.
use Rattle.std.proofs.Common.{◌∙◌, arith}
use Rattle.elf_format.proofs.HexText.{encoded}
use Rattle.elf_format.proofs.note_rows.show_digits.Goals as goal

pub returns : goal.returns
returns g c = record {
  puts =
      let written = rw c.unwrap.ensures at c.encode_to_slice.ensures.written in
      let digits = written ∙ encoded c.args.first_bytes.now (λ i. omega (arith, c.type_inv.first_bytes i)) in
      let tail = c.deref.ensures.0 ∙ c.note_end-tail.ensures.items in
      rw (tail, digits) at c.show_tailed.ensures.puts;
}
