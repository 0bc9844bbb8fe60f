use Rattle.std.proofs.Common.{[], ◌∷◌, ◌++◌, sym, ap, ◌∙◌}
use Rattle.std.specs.Prelude.{Some}
use Rattle.elf_model.specs.LinkArchives.{link_members}
use Rattle.elf_resolve.proofs.StopMemberLaws.{below_length, member_leaves, room_stops}
use Rattle.elf_resolve.proofs.NamedRowLaws.{member_added}
use Rattle.elf_resolve.proofs.TakenMemberLaws.{on_ok_then}
use Rattle.elf_resolve.proofs.resolver.Resolver.take_row.Goals as goal

pub returns-in_default-clause-leaves : goal.returns-in_default-clause-leaves
returns-in_default-clause-leaves g c = λ files file m known has at headers file_is none.
    rw c.refused.ensures (room_stops files ⊥ _ _ _ 0)

pub returns-clause-leaves : goal.returns-clause-leaves
returns-clause-leaves g c = λ files file m known has at headers file_is none.
    let old = c.args.self.now in
    let added = c.in-Some.ensures in
    let new = record old { link = record { keys = c.take_member.new.keys; rows = c.add-row.new.self }; room = c.take_member.new.room; row = c.add-row.result } in
    let row_is = c.member_row.ensures in
    let rows = added.rows ∙ ap (λ r. old.link.rows.rows ++ r ∷ []) row_is in
    member_leaves files file c.args.archive.input c.args.archive.row c.args.member file_is old.link.rows.rows new _ c.in-Some.row old.link.keys c.take_member.new.keys c.take_member.result
    (below_length (link_members file).members c.args.member m at) rows (c.in-Some.is ∙ ap (λ n. Some n) added.index_is) (sym rows) none
    (c.take_member.ensures.stops files file known has headers)

pub returns-clause-names : goal.returns-clause-names
returns-clause-names g c = λ files file file_is known has.
    let new = record c.args.self.now { link = record { keys = c.take_member.new.keys; rows = c.add-row.new.self }; room = c.take_member.new.room } in
    on_ok_then _ _ c.take_member.result (member_added files file c.args.archive c.args.member c.in-Some.row c.member_row.result c.args.self.now new file_is c.member_row.ensures c.in-Some.ensures)
    (c.take_member.ensures.names file known has)
