use Rattle.std.proofs.Common.{◌≡◌, ◌==◌, ◌∙◌, subst, arith, false}
use Rattle.std.proofs.lemmas.Bool.Decides.{nat_tests}
use Rattle.elf_source.specs.Output.{OutPuts}
use Rattle.elf_cli.proofs.MarkedText.{byte-told, newline-told}
use Rattle.elf_cli.proofs.program_arguments.show_byte.Goals.{else-byte-eq10-via-then-byte-eq10+else-mark-ne10, else-byte-eq10-via-else-byte-eq10}
use Rattle.elf_cli.proofs.program_arguments.show_byte.Goals as goal

pub returns-then-mark-ne10 : goal.returns-then-mark-ne10
returns-then-mark-ne10 g c =
    let byte : c.args.byte ≡ 10 = grind (arith, c.if-byte-eq10.true, nat_tests) in
    let mark : (c.args.mark == 10) ≡ false = grind (arith, c.if-mark-ne10.true, nat_tests) in
    subst (λ t. OutPuts c.args.out.now c.put.new.self c.put.result t) (c.as_bytes.ensures.value ∙ newline-told c.args.byte c.args.mark byte mark) c.put.ensures.puts

pub returns : goal.returns
returns g c = subst (λ t. OutPuts c.args.out.now c.show_escaped_text.new.out c.show_escaped_text.result t) (byte-told c.args.byte c.args.mark both) c.show_escaped_text.ensures.puts
  where
    both : c.args.byte ≡ 10 → c.args.mark ≡ 10
    both e = elim c.else-byte-eq10.branch [
      | else-byte-eq10-via-then-byte-eq10+else-mark-ne10 w ↦ grind (arith, w.if-mark-ne10, nat_tests)
      | else-byte-eq10-via-else-byte-eq10 w ↦ absurd (grind (arith, e, w.if-byte-eq10, nat_tests))
    ]
