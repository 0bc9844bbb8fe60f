-- Any other byte is escaped in digits, after two backslashes.
use Rattle.std.proofs.Common.{◌<◌, ◌≤◌, codes, arith, append_assoc}
use Rattle.elf_model.specs.Text.{hex}
use Rattle.elf_format.proofs.NameText.{string_low, string_high}
use Rattle.elf_format.proofs.objects.put_quoted_byte.Goals as goal
use Rattle.elf_format.proofs.objects.put_quoted_byte.Goals.{in_default-via-then-byte-lt32, in_default-via-else-byte-lt32+else-byte-lt127}

pub returns-in_default-clause-items : goal.returns-in_default-clause-items
returns-in_default-clause-items c =
    let regroup = append_assoc c.args.line.now.items (codes "\\\\x") (hex 2 c.args.byte) in
    elim c.in_default.branch [
      | in_default-via-then-byte-lt32 w ↦
          let low : c.args.byte < 32 = omega arith in
          rw (c.write_hex.ensures.items, c.put-in_default.ensures.items, c.from.ensures, string_low c.args.byte low) regroup
      | in_default-via-else-byte-lt32+else-byte-lt127 w ↦
          let high : 127 ≤ c.args.byte = omega arith in
          rw (c.write_hex.ensures.items, c.put-in_default.ensures.items, c.from.ensures, string_high c.args.byte high) regroup
    ]
