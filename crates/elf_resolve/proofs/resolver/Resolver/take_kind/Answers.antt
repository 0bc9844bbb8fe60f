use Rattle.std.proofs.Common.{ap, ◌∙◌}
use Rattle.elf_resolve.specs.Plans.{file_of_kind}
use Rattle.elf_resolve.proofs.TakenLaws.{archive_known, missing_taken, object_known}
use Rattle.elf_resolve.proofs.BeginLaws.{begins_same}
use Rattle.elf_resolve.proofs.StopLaws.{leaves_within, missing_leaves}
use Rattle.elf_model.specs.declared.link_states.LinkRowKind.TheVariants.{Missing}
use Rattle.elf_resolve.specs.declared.room.LinkRoom.{LinkRoom}
use Rattle.elf_resolve.proofs.NamedRowLaws.{file_added}
use Rattle.elf_resolve.proofs.resolver.Resolver.take_kind.Goals as goal

pub returns-in_ok-add_row-in-Missing-clause-takes : goal.returns-in_ok-add_row-in-Missing-clause-takes
returns-in_ok-add_row-in-Missing-clause-takes g c = λ all planned is done.
    missing_taken all c.args.self.now c.add_row.new.self c.args.index c.in_ok-add_row-in-Missing.field-0 is done c.in_ok-add_row-in-Missing.ensures.adds
    (planned.file ∙ ap (λ k. file_of_kind k (g.F.InputFiles.file c.args.files.now.files c.args.index)) c.in-Missing.is)

pub returns-in-Object-clause-takes : goal.returns-in-Object-clause-takes
returns-in-Object-clause-takes g c = λ all planned is done.
    let known = object_known all (g.F.InputFiles.file c.args.files.now.files) c.args.index c.args.input planned c.in-Object.is in
    c.read_input.ensures.takes all known.0 planned known.1 known.2 is done

pub returns-in-Archive-clause-takes : goal.returns-in-Archive-clause-takes
returns-in-Archive-clause-takes g c = λ all planned is done.
    let known = archive_known all (g.F.InputFiles.file c.args.files.now.files) c.args.index c.args.input planned c.in-Archive.is in
    c.read_input-in-Archive.ensures.takes all known.0 planned known.1 known.2 is done

pub returns-in_ok-add_row-in-Missing-clause-leaves : goal.returns-in_ok-add_row-in-Missing-clause-leaves
returns-in_ok-add_row-in-Missing-clause-leaves g c = λ all planned is done none.
    missing_leaves all c.args.self.now c.add_row.new.self c.args.index c.in_ok-add_row-in-Missing.field-0 c.in_ok-add_row-in-Missing.ensures.adds
    (planned.file ∙ ap (λ k. file_of_kind k (g.F.InputFiles.file c.args.files.now.files c.args.index)) c.in-Missing.is) none

pub returns-in-Object-clause-leaves : goal.returns-in-Object-clause-leaves
returns-in-Object-clause-leaves g c = λ all planned is done none.
    let known = object_known all (g.F.InputFiles.file c.args.files.now.files) c.args.index c.args.input planned c.in-Object.is in
    leaves_within all ⊥ _ c.read_input.new.self _ _ c.read_input.result (λ none_such. absurd none_such) (begins_same _) (c.read_input.ensures.leaves all known.0 planned known.1 known.2 is done none)

pub returns-in-Archive-clause-leaves : goal.returns-in-Archive-clause-leaves
returns-in-Archive-clause-leaves g c = λ all planned is done none.
    let known = archive_known all (g.F.InputFiles.file c.args.files.now.files) c.args.index c.args.input planned c.in-Archive.is in
    leaves_within all ⊥ _ c.read_input-in-Archive.new.self _ _ c.read_input-in-Archive.result (λ none_such. absurd none_such) (begins_same _) (c.read_input-in-Archive.ensures.leaves all known.0 planned known.1 known.2 is done none)

pub returns-in_ok-add_row-in-Missing-clause-names : goal.returns-in_ok-add_row-in-Missing-clause-names
returns-in_ok-add_row-in-Missing-clause-names g c = λ all planned is done.
    file_added all c.args.self.now c.add_row.new.self Missing c.args.index c.in_ok-add_row-in-Missing.ensures.adds.added.rows (ap (λ (r : LinkRoom). r.names) c.add_row.ensures.room)

pub returns-in-Object-clause-names : goal.returns-in-Object-clause-names
returns-in-Object-clause-names g c = λ all planned is done.
    let known = object_known all (g.F.InputFiles.file c.args.files.now.files) c.args.index c.args.input planned c.in-Object.is in
    c.read_input.ensures.names all known.0 planned known.1 known.2 is done

pub returns-in-Archive-clause-names : goal.returns-in-Archive-clause-names
returns-in-Archive-clause-names g c = λ all planned is done.
    let known = archive_known all (g.F.InputFiles.file c.args.files.now.files) c.args.index c.args.input planned c.in-Archive.is in
    c.read_input-in-Archive.ensures.names all known.0 planned known.1 known.2 is done
