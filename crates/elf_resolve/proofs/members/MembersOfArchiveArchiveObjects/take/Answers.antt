use Rattle.std.proofs.Common.{refl, sym, ap, subst, ◌∙◌}
use Rattle.elf_model.specs.LinkObjects.{LinkObject}
use Rattle.std.specs.Prelude.{Some}
use Rattle.elf_resolve.specs.LinkMembers.{whole_file_of}
use Rattle.elf_resolve.specs.Passing.{TookObject}
use Rattle.elf_resolve.specs.SearchStops.{MovesMember, refusal_in}
use Rattle.elf_resolve.specs.Taken.{IsLinkFault}
use Rattle.elf_resolve.proofs.MemberTaking.{files_with, known_object}
use Rattle.elf_resolve.proofs.members.MembersOfArchiveArchiveObjects.take.Goals as goal

pub returns-in-Ok-clause-takes : goal.returns-in-Ok-clause-takes
returns-in-Ok-clause-takes g c = λ known.
    let headers = c.args.self.now.room.now.headers in
    let took = c.in-Ok.ensures.takes (files_with headers) refl known in
    subst (λ (o : LinkObject). TookObject o c.args.keys.now c.take_member.new.keys c.args.row) (sym (known_object known.file c.args.self.now.src.now.seen.whole headers c.args.member known.is)) took.object

pub returns-in-Ok-clause-accepts : goal.returns-in-Ok-clause-accepts
returns-in-Ok-clause-accepts g c = λ known.
    let headers = c.args.self.now.room.now.headers in
    ap (λ f. refusal_in f headers c.args.member) known.is ∙ (c.in-Ok.ensures.takes (files_with headers) refl known).taken

pub returns-in-Err-clause-stops : goal.returns-in-Err-clause-stops
returns-in-Err-clause-stops g c = λ known.
    let before = c.args.self.now.room.now.headers in
    record {
      file = known.file;
      fault = c.in-Err.fault;
      file_is = ap whole_file_of c.in-Err.ensures.whole ∙ known.is;
      kept_is = refl;
      not_asked = refl;
      is = λ below moves. subst (λ h. IsLinkFault (refusal_in (Some known.file) h c.args.member) c.in-Err.fault) (sym c.in-Err.ensures.headers)
          (c.in-Err.ensures.takes (files_with before) refl known below (subst (λ h. MovesMember h known.file c.args.member) c.in-Err.ensures.headers moves));
    }
