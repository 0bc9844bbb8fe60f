-- An object that is refused defines nothing.
use Rattle.std.proofs.Common.{refl}
use Rattle.elf_model.specs.LinkPasses.{index_name}
use Rattle.elf_model.specs.LinkSymbols.{object_refusal}
use Rattle.elf_resolve.proofs.ObjectRefusals.{defines_passed, defines_refused}
use Rattle.elf_resolve.proofs.members.defines.Goals as goal

pub returns-in-Ok-clause-finds : goal.returns-in-Ok-clause-finds
returns-in-Ok-clause-finds g c = λ file known.
    let found = c.in-Ok.ensures.finds file known in
    defines_passed file c.args.room.now.headers (index_name c.args.keys.now.keys c.args.entry) c.in-Ok.found found.0 found.1

pub returns-in-Err-clause-finds : goal.returns-in-Err-clause-finds
returns-in-Err-clause-finds g c = λ file known.
    let headers = c.args.room.now.headers in
    defines_refused file headers (index_name c.args.keys.now.keys c.args.entry) (object_refusal file headers) refl
    (c.is_of_object.ensures.own c.if-is_of_object.true (object_refusal file headers) (c.in-Err.ensures.finds file known))
