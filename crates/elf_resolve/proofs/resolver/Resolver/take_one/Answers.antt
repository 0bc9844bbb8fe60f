use Rattle.std.proofs.Common.{refl, ap, ◌∙◌}
use Rattle.std.specs.Prelude.{Some}
use Rattle.elf_resolve.proofs.TakenLaws.{object_file_taken, object_on_ok}
use Rattle.elf_resolve.proofs.StopLaws.{object_leaves}
use Rattle.elf_model.specs.declared.link_states.LinkRowKind.TheVariants.{Object}
use Rattle.elf_resolve.specs.declared.room.LinkRoom.{LinkRoom}
use Rattle.elf_resolve.proofs.NamedRowLaws.{file_added}
use Rattle.elf_resolve.proofs.TakenMemberLaws.{on_ok_from}
use Rattle.elf_resolve.proofs.resolver.Resolver.take_one.Goals as goal

pub returns-clause-takes : goal.returns-clause-takes
returns-clause-takes g c = λ all file is seen file_is not_archive done.
    let added = c.add_row.new.self in
    let new = record added { link = record { keys = c.take_object.new.keys; rows = added.link.rows }; room = c.take_object.new.room } in
    object_on_ok _ file added.room.headers c.in_ok-row.row added.link.keys c.take_object.new.keys c.take_object.result (c.take_object.ensures.takes file seen)
    (λ takes. object_file_taken all file c.args.self.now added new c.args.index c.in_ok-row.row is done not_archive file_is c.in_ok-row.ensures.adds refl refl refl refl refl refl c.take_object.ensures.headers
    (record { offers = refl; further = refl; spare = refl; kinds = refl; problems = refl; most_rows = refl }) takes)

pub returns-clause-leaves : goal.returns-clause-leaves
returns-clause-leaves g c = λ all file is seen file_is not_archive none.
    let added = c.add_row.new.self in
    let new = record added { link = record { keys = c.take_object.new.keys; rows = added.link.rows }; room = c.take_object.new.room } in
    object_leaves all file c.args.self.now new c.args.index added.room.headers c.in_ok-row.row added.link.keys c.take_object.new.keys c.take_object.result not_archive file_is (c.in_ok-row.ensures.adds.steps.headers ∙ is.headers)
    c.in_ok-row.ensures.adds.added.rows (c.in_ok-row.ensures.row ∙ ap (λ n. Some n) c.in_ok-row.ensures.adds.added.index_is) none (c.take_object.ensures.takes file seen)

pub returns-clause-names : goal.returns-clause-names
returns-clause-names g c = λ all.
    let added = c.add_row.new.self in
    let new = record added { link = record { keys = c.take_object.new.keys; rows = added.link.rows }; room = c.take_object.new.room } in
    on_ok_from _ c.take_object.result (file_added all c.args.self.now new Object c.args.index c.in_ok-row.ensures.adds.added.rows (c.take_object.ensures.names ∙ ap (λ (r : LinkRoom). r.names) c.add_row.ensures.room))
