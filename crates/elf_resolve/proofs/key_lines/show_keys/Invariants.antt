use Rattle.elf_resolve.specs.LinkerNames.{output_of}
use Rattle.elf_resolve.specs.Resolved.{linking_of}
use Rattle.elf_resolve.specs.StaticLinks.{AreKeysListed}
use Rattle.elf_resolve.proofs.KeyShownLaws.{AreKeysShown}
use Rattle.elf_resolve.proofs.key_lines.show_keys.Given as goal

abbrev pub invariant-loop-key : goal.invariant-loop-key
invariant-loop-key g l = AreKeysListed l.link → AreKeysShown l.problems g.R.Render.FORMAT (output_of l.link.output) (linking_of l.link) (linking_of l.link).keys.order l.key-index l.fails l.initial.out l.out
