use Rattle.std.proofs.Common.{◌≡◌, length}
use Rattle.std.specs.Prelude.{Some}
use Rattle.std.specs.List.{slice_get}
use Rattle.elf_resolve.specs.Plans.{planned_files}
use Rattle.elf_resolve.specs.declared.resolver.InputState.TheVariants as state
use Rattle.elf_resolve.proofs.OpenedLaws.{found_opened}
use Rattle.elf_resolve.proofs.TakenMemberLaws.{on_ok_then}
use Rattle.elf_resolve.proofs.TakenLaws.{archive_again_taken, archive_found, done_again, found_as_own, known_planned}
use Rattle.std.proofs.Common.{sym, ap}
use Rattle.elf_model.specs.LinkArchives.{files_as_inputs}
use Rattle.elf_model.specs.LinkInputs.{Linking}
use Rattle.elf_resolve.specs.LinkPlaces.{input_made, is_new_state}
use Rattle.elf_resolve.specs.Resolved.{linking_of}
use Rattle.elf_resolve.proofs.BeginLaws.{begins_as, begins_same}
use Rattle.elf_resolve.proofs.StopLaws.{again_makes_input, leaves_within}
use Rattle.elf_resolve.proofs.TakenLaws.{planned_at}
use Rattle.elf_resolve.proofs.resolver.Resolver.visit.Goals as goal

pub returns-in-Some-Archive-clause-visits : goal.returns-in-Some-Archive-clause-visits
returns-in-Some-Archive-clause-visits g c = λ headers static is.
    let all = planned_files (g.F.InputFiles.file c.args.files.now.files) c.args.plan.now headers in
    let old = c.args.self.now in
    let at : slice_get old.states.items c.args.input ≡ Some (state.Archive c.in-Some-Archive.archive) = cc (c.element_at-2.ensures, c.deref-2.ensures.value, c.in-Some-Archive.is, c.in-Some-Archive.field-0-is) in
    let found = archive_found all old c.args.input c.in-Some-Archive.archive is at in
    let a = found.0 in
    let opened = found_opened all old.tables.members.items (length old.tables.entries.items) 0 old.tables.archives.items c.args.input a is.opened found.2 in
    let own = found_as_own old.tables.archives.items c.args.input a found.2 in
    let known = known_planned (slice_get c.args.plan.now.inputs.items a.input) (g.F.InputFiles.file c.args.files.now.files a.input) opened.file opened.file_is in
    on_ok_then _ _ c.search_again.result (archive_again_taken all old c.search_again.new.self c.args.input c.in-Some-Archive.archive a opened is at found.2)
    (c.search_again.ensures.searches all a opened.file is found.1 own opened.file_is known)

pub returns-in-Some-Done-clause-visits : goal.returns-in-Some-Done-clause-visits
returns-in-Some-Done-clause-visits g c = λ headers static is.
    let at : slice_get c.args.self.now.states.items c.args.input ≡ Some state.Done = cc (c.element_at-2.ensures, c.deref-2.ensures.value, c.in-Some-Done.is) in
    done_again (planned_files (g.F.InputFiles.file c.args.files.now.files) c.args.plan.now headers) c.args.self.now c.args.input is at

pub returns-in-Some-New-clause-leaves : goal.returns-in-Some-New-clause-leaves
returns-in-Some-New-clause-leaves g c = λ headers static is none.
    let known = g.F.InputFiles.file c.args.files.now.files in
    let all = planned_files known c.args.plan.now headers in
    let old = c.args.self.now in
    let here : slice_get c.args.plan.now.inputs.items c.args.input ≡ Some c.in-Some.known = cc (c.element_at.ensures, c.deref.ensures.value, c.in-Some.is) in
    let at : slice_get old.states.items c.args.input ≡ Some state.New = cc (c.element_at-2.ensures, c.deref-2.ensures.value, c.in-Some-New.is) in
    let planned = planned_at known c.args.plan.now headers c.args.input c.in-Some.known static here in
    leaves_within all _ _ c.take_input.new.self _ _ c.take_input.result (λ bad. record { index = c.args.input; input = c.in-Some.known; at = here; kind_is = bad })
    (begins_as _ _ _ (ap (λ b. (input_made b (linking_of old) c.args.input (files_as_inputs all c.args.input)).rows) (sym (ap is_new_state at))) (begins_same _))
    (c.take_input.ensures.leaves all planned is at none)

pub returns-in-Some-Archive-clause-leaves : goal.returns-in-Some-Archive-clause-leaves
returns-in-Some-Archive-clause-leaves g c = λ headers static is none.
    let all = planned_files (g.F.InputFiles.file c.args.files.now.files) c.args.plan.now headers in
    let old = c.args.self.now in
    let at : slice_get old.states.items c.args.input ≡ Some (state.Archive c.in-Some-Archive.archive) = cc (c.element_at-2.ensures, c.deref-2.ensures.value, c.in-Some-Archive.is, c.in-Some-Archive.field-0-is) in
    let found = archive_found all old c.args.input c.in-Some-Archive.archive is at in
    let a = found.0 in
    let opened = found_opened all old.tables.members.items (length old.tables.entries.items) 0 old.tables.archives.items c.args.input a is.opened found.2 in
    let own = found_as_own old.tables.archives.items c.args.input a found.2 in
    let known = known_planned (slice_get c.args.plan.now.inputs.items a.input) (g.F.InputFiles.file c.args.files.now.files a.input) opened.file opened.file_is in
    leaves_within all ⊥ _ c.search_again.new.self _ _ c.search_again.result (λ none_such. absurd none_such)
    (begins_as _ _ _ (ap (λ (l : Linking). l.rows) (again_makes_input all old c.args.input c.in-Some-Archive.archive a opened at found.2)) (begins_same _))
    (c.search_again.ensures.leaves all a opened.file is found.1 own opened.file_is known none)

pub returns-in-Some-Archive-clause-names : goal.returns-in-Some-Archive-clause-names
returns-in-Some-Archive-clause-names g c = λ headers static is.
    let all = planned_files (g.F.InputFiles.file c.args.files.now.files) c.args.plan.now headers in
    let old = c.args.self.now in
    let at : slice_get old.states.items c.args.input ≡ Some (state.Archive c.in-Some-Archive.archive) = cc (c.element_at-2.ensures, c.deref-2.ensures.value, c.in-Some-Archive.is, c.in-Some-Archive.field-0-is) in
    let found = archive_found all old c.args.input c.in-Some-Archive.archive is at in
    let a = found.0 in
    let opened = found_opened all old.tables.members.items (length old.tables.entries.items) 0 old.tables.archives.items c.args.input a is.opened found.2 in
    let own = found_as_own old.tables.archives.items c.args.input a found.2 in
    let known = known_planned (slice_get c.args.plan.now.inputs.items a.input) (g.F.InputFiles.file c.args.files.now.files a.input) opened.file opened.file_is in
    c.search_again.ensures.names all a opened.file is found.1 own opened.file_is known
