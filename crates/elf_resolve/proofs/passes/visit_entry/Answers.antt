use Rattle.std.proofs.Common.{[], ◌∷◌, ◌++◌, sym, subst, ap, ◌∙◌}
use Rattle.std.specs.Prelude.{Some}
use Rattle.std.proofs.lemmas.Result.{err_from_is_err_and}
use Rattle.elf_model.specs.LinkKeys.{LinkKeys}
use Rattle.elf_model.specs.LinkObjects.{object_taken}
use Rattle.elf_model.specs.LinkPasses.{ArchiveMembers}
use Rattle.elf_model.specs.declared.link_states.LinkRow.{LinkRow}
use Rattle.elf_resolve.specs.Passing.{searched_archive, pass_of}
use Rattle.elf_model.specs.declared.link_states.LinkRow.{LinkRow}
use Rattle.elf_resolve.specs.RowNames.{KeepsMemberNames}
use Rattle.elf_resolve.proofs.RowNameLaws.{keeps_itself, keeps_member}
use Rattle.elf_resolve.proofs.PassLaws.{visited_again, visited_takes, visited_unasked}
use Rattle.elf_resolve.proofs.PassingLaws.{member_by}
use Rattle.elf_resolve.proofs.SearchStopLaws.{added_none, added_one, halts_at, member_stops, stops_at, untaken_within, visit_adds}
use Rattle.elf_resolve.proofs.passes.visit_entry.Goals as goal

pub returns-then-is_taken-clause-visits : goal.returns-then-is_taken-clause-visits
returns-then-is_taken-clause-visits g c known =
    sym (visited_again (searched_archive c.args.archive (g.M.ArchiveObjects.members c.args.members.now)) (pass_of c.args.link.now c.args.taken.now) c.args.entry (sym c.is_taken.ensures ∙ c.if-is_taken.true))

pub returns-then-not-branch-clause-visits : goal.returns-then-not-branch-clause-visits
returns-then-not-branch-clause-visits g c known =
    sym (visited_unasked (searched_archive c.args.archive (g.M.ArchiveObjects.members c.args.members.now)) (pass_of c.args.link.now c.args.taken.now) c.args.entry (sym (c.in_ok-asks_for.ensures.asks known) ∙ c.if-not-branch.true))

pub returns-clause-visits : goal.returns-clause-visits
returns-clause-visits g c known =
    let archive = searched_archive c.args.archive (g.M.ArchiveObjects.members c.args.members.now) in
    let held = pass_of c.args.link.now c.args.taken.now in
    let added = c.in-Some.ensures in
    let taken = c.in_ok-take.ensures.takes (c.asks_for.ensures.known known) in
    let members : ArchiveMembers → LinkKeys = λ m. object_taken (Some c.in-Some.index) c.args.link.now.keys.keys (m.objects c.args.entry.member) in
    member_by archive held c.args.entry c.in-Some.index _ c.member_row-row.result _ added.index_is (taken.keys ∙ ap members c.in_ok-asks_for.ensures.same) c.member_row-row.ensures added.rows
    ∙ sym (visited_takes archive held c.args.entry (sym (c.in_ok-asks_for.ensures.asks known) ∙ c.if-not-branch.false) (sym c.is_taken.ensures ∙ c.if-is_taken.false))

pub returns-clause-limits : goal.returns-clause-limits
returns-clause-limits g c known =
    let taken = c.in_ok-take.ensures.takes (c.asks_for.ensures.known known) in
    record { most = taken.most; most_further = taken.most_further }

pub returns-then-is_taken-clause-stops : goal.returns-then-is_taken-clause-stops
returns-then-is_taken-clause-stops g c known = added_none (g.M.ArchiveObjects.refusal c.args.members.now) c.args.archive.input c.args.link.now.rows.rows

pub returns-then-not-branch-clause-stops : goal.returns-then-not-branch-clause-stops
returns-then-not-branch-clause-stops g c known = added_none (g.M.ArchiveObjects.refusal c.args.members.now) c.args.archive.input c.args.link.now.rows.rows

pub returns-in_err-asks_for-clause-stops : goal.returns-in_err-asks_for-clause-stops
returns-in_err-asks_for-clause-stops g c known =
    let p = err_from_is_err_and c.from_residual.result c.from_residual.ensures.1 in
    rw (p.1, p.2) (halts_at (g.M.ArchiveObjects.refusal c.args.members.now) c.args.archive.input _ _ _ _ _ _ c.args.entry.member c.in_err-asks_for.field-0.0
    (untaken_within c.args.taken.now c.args.entry.member (sym c.is_taken.ensures ∙ c.if-is_taken.false)) (c.in_err-asks_for.ensures.halts known))

pub returns-in_err-asks_for-clause-full : goal.returns-in_err-asks_for-clause-full
returns-in_err-asks_for-clause-full g c =
    let p = err_from_is_err_and c.from_residual.result c.from_residual.ensures.1 in
    rw (p.1, p.2) (member_stops _ _ c.in_err-asks_for.ensures.of_member)

pub returns-in_err-take-clause-full : goal.returns-in_err-take-clause-full
returns-in_err-take-clause-full g c =
    let p = err_from_is_err_and c.from_residual-in_err-take.result c.from_residual-in_err-take.ensures.1 in
    rw (p.1, p.2) (member_stops _ _ c.in_err-take.ensures.of_member)

pub returns-in_err-take-clause-stops : goal.returns-in_err-take-clause-stops
returns-in_err-take-clause-stops g c known =
    let p = err_from_is_err_and c.from_residual-in_err-take.result c.from_residual-in_err-take.ensures.1 in
    let archive = searched_archive c.args.archive (g.M.ArchiveObjects.members c.args.members.now) in
    let held = pass_of c.args.link.now c.args.taken.now in
    let free = sym c.is_taken.ensures ∙ c.if-is_taken.false in
    let added = c.in-Some.ensures in
    let row_is = c.member_row-row.ensures in
    rw (p.1, p.2) (stops_at (g.M.ArchiveObjects.refusal c.args.members.now) c.args.archive.input _ _ _ _ _ _ c.member_row-row.result c.args.entry.member c.in_err-take.field-0.0
    (untaken_within c.args.taken.now c.args.entry.member free) added.rows
    (visit_adds archive held c.args.entry c.member_row-row.result _ (sym (c.in_ok-asks_for.ensures.asks known) ∙ c.if-not-branch.false) free row_is added.rows)
    (ap (λ (r : LinkRow). r.member) row_is) (ap (λ (r : LinkRow). r.input) row_is) (c.in_err-take.ensures.stops (c.asks_for.ensures.known known)))

pub returns-clause-stops : goal.returns-clause-stops
returns-clause-stops g c known =
    let row_is = c.member_row-row.ensures in
    added_one (g.M.ArchiveObjects.refusal c.args.members.now) c.args.archive.input _ _ c.member_row-row.result c.args.entry.member c.in-Some.ensures.rows (ap (λ (r : LinkRow). r.member) row_is) (ap (λ (r : LinkRow). r.input) row_is)
    (ap (λ r. r c.args.entry.member) (sym c.in_ok-asks_for.ensures.same_refusal) ∙ c.in_ok-take.ensures.accepts (c.asks_for.ensures.known known))

pub returns-clause-names : goal.returns-clause-names
returns-clause-names g c known =
    let added = c.in-Some.ensures in
    let adds = c.in_ok-take.ensures.adds (c.asks_for.ensures.known known) in
    let row = c.member_row-row.result in
    keeps_member (g.M.ArchiveObjects.named c.args.members.now) c.args.link.now.rows.rows _ row c.in-Some.index c.args.archive.input c.args.entry.member (g.M.ArchiveObjects.names c.args.members.now) _ added.rows added.index_is
    (ap (λ (r : LinkRow). r.input) c.member_row-row.ensures) (ap (λ (r : LinkRow). r.member) c.member_row-row.ensures)
    (adds ∙ ap (λ f. g.M.ArchiveObjects.names c.asks_for.new.members ++ (record { row = c.in-Some.index; name = f c.args.entry.member }) ∷ []) c.asks_for.ensures.named
    ∙ ap (λ l. l ++ (record { row = c.in-Some.index; name = g.M.ArchiveObjects.named c.args.members.now c.args.entry.member }) ∷ []) c.asks_for.ensures.names)

pub returns-then-is_taken-clause-names : goal.returns-then-is_taken-clause-names
returns-then-is_taken-clause-names g c known =
    keeps_itself c.args.archive.input (g.M.ArchiveObjects.named c.args.members.now) c.args.link.now.rows.rows (g.M.ArchiveObjects.names c.args.members.now)

pub returns-then-not-branch-clause-names : goal.returns-then-not-branch-clause-names
returns-then-not-branch-clause-names g c known =
    let rows = c.args.link.now.rows.rows in
    subst (λ names. KeepsMemberNames c.args.archive.input (g.M.ArchiveObjects.named c.args.members.now) rows rows (g.M.ArchiveObjects.names c.args.members.now) names) (sym c.asks_for.ensures.names)
    (keeps_itself c.args.archive.input (g.M.ArchiveObjects.named c.args.members.now) rows (g.M.ArchiveObjects.names c.args.members.now))

pub returns-in_err-take-clause-known : goal.returns-in_err-take-clause-known
returns-in_err-take-clause-known g c known = c.take.ensures.known (c.asks_for.ensures.known known)

pub returns-clause-known : goal.returns-clause-known
returns-clause-known g c known = c.take.ensures.known (c.asks_for.ensures.known known)
