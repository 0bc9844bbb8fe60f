-- What is reported of arguments ends as bad arguments do, or for lack of memory.
use Rattle.std.proofs.Common.{inl, inr}
use Rattle.elf_cli.specs.declared.faults.RequestFault.TheVariants.{Memory}
use Rattle.elfsee.proofs.read_request.Goals as goal

pub returns-in-Err-clause-refused : goal.returns-in-Err-clause-refused
returns-in-Err-clause-refused c = elim c.report_refused.ensures [
  | inl told ↦ (c.in-Err.fault, told)
  | inr memory ↦ (Memory, memory)
]
