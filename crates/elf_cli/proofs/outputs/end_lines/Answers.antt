-- What is left of an output of whole lines.
use Rattle.elf_cli.proofs.OutputLaws.{rest_put}
use Rattle.elf_cli.proofs.outputs.end_lines.Goals.{then-is_rest_wanted, else-is_rest_wanted}
use Rattle.elf_cli.proofs.outputs.end_lines.Goals as goal

pub returns-clause-rest : goal.returns-clause-rest
returns-clause-rest g c = λ wanted. elim c.if-is_rest_wanted.branch [
  | then-is_rest_wanted w ↦ rest_put c.args.output c.if-is_rest_wanted.output _ _ (rw w.output-is w.give_rest.ensures.gives) c.into_inner-sink.ensures.failed c.into_inner-sink.ensures.below
  | else-is_rest_wanted w ↦
      let is = c.is_rest_wanted.ensures in
      let not = w.if-is_rest_wanted in
      absurd (cc)
]
