use Rattle.std.proofs.Common.{length, refl, sym, ap, ◌∙◌, arith}
use Rattle.elf_model.specs.LinkPasses.{index_name}
use Rattle.elf_resolve.proofs.MemberTaking.{known_defines}
use Rattle.elf_resolve.proofs.members.MembersOfArchiveArchiveObjects.defines.Goals as goal

pub returns-in-Ok-clause-defines : goal.returns-in-Ok-clause-defines
returns-in-Ok-clause-defines g c = λ known.
    c.in-Ok.ensures.defines known
    ∙ sym (known_defines known.file c.args.self.now.src.now.seen.whole c.args.self.now.room.now.headers c.args.entry.member (index_name c.args.keys.now.keys c.args.entry) known.is)

pub returns-in-Err-clause-halts : goal.returns-in-Err-clause-halts
returns-in-Err-clause-halts g c = λ known.
    record {
      fault = c.in-Err.fault;
      kept_is = refl;
      is = λ below. c.in-Err.ensures.fails known (omega (arith, below, ap length c.in-Err.ensures.members));
    }
