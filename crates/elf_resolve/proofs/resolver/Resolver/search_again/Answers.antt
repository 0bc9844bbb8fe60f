use Rattle.std.proofs.Common.{◌≡◌, ap, ◌∙◌}
use Rattle.std.specs.Prelude.{OnOk, Some}
use Rattle.std.specs.List.{slice_get}
use Rattle.std.proofs.lemmas.Result.{err_from_is_err_and}
use Rattle.elf_model.specs.LinkArchives.{link_members, members_as_objects}
use Rattle.elf_model.specs.LinkInputs.{archive_again}
use Rattle.elf_resolve.specs.EndsAtRefusal.{LeavesRows}
use Rattle.elf_resolve.specs.NamedRows.{KeepsRowNames}
use Rattle.elf_resolve.specs.OpenedArchives.{archive_of_input}
use Rattle.elf_resolve.specs.Resolved.{linking_of, open_archive}
use Rattle.elf_resolve.specs.ResolvedInputs.{TookMembers}
use Rattle.elf_resolve.specs.declared.archives.OpenedArchive.{OpenedArchive}
use Rattle.elf_resolve.proofs.OpenedLaws.{some_of}
use Rattle.elf_resolve.proofs.ReadBudgetLaws.{file_spends, spends_none, spends_same}
use Rattle.elf_resolve.proofs.RefusalLaws.{limit_stops}
use Rattle.elf_resolve.proofs.TakenMemberLaws.{of_archive}
use Rattle.elf_resolve.proofs.resolver.Resolver.search_again.Goals as goal

pub returns-clause-searches : goal.returns-clause-searches
returns-clause-searches g c = λ all a file is at found file_is known.
    let old = c.args.self.now in
    let one : c.in-Some.archive ≡ a = some_of c.in-Some.archive a (c.in-Some.ensures ∙ ap (λ l. slice_get l c.args.archive) c.deref.ensures.value ∙ at) in
    of_archive (λ (x : OpenedArchive). (archive_of_input old.tables.archives.items x.input ≡ Some x) × (all.file x.input ≡ Some file) × (g.F.InputFiles.file c.args.files.now.files x.input ≡ Some file))
    (λ x. OnOk c.search-taken.result (TookMembers old c.search-taken.new.self (archive_again (linking_of old) (open_archive old.tables.entries.items old.taken.items x) (members_as_objects file (link_members file).members all.headers)))) one
    (λ h. c.search-taken.ensures.searches all file is h.0 h.1 (c.in_ok-src.ensures.opens file h.2).1) (found, file_is, known)

pub returns-clause-leaves : goal.returns-clause-leaves
returns-clause-leaves g c = λ all a file is at found file_is known none.
    let old = c.args.self.now in
    let one : c.in-Some.archive ≡ a = some_of c.in-Some.archive a (c.in-Some.ensures ∙ ap (λ l. slice_get l c.args.archive) c.deref.ensures.value ∙ at) in
    of_archive (λ (x : OpenedArchive). (archive_of_input old.tables.archives.items x.input ≡ Some x) × (all.file x.input ≡ Some file) × (g.F.InputFiles.file c.args.files.now.files x.input ≡ Some file))
    (λ x. LeavesRows all ⊥ c.search-taken.new.self (archive_again (linking_of old) (open_archive old.tables.entries.items old.taken.items x) (members_as_objects file (link_members file).members all.headers)).rows c.search-taken.result) one
    (λ h. c.search-taken.ensures.leaves all file is h.0 h.1 (c.in_ok-src.ensures.opens file h.2).1 none) (found, file_is, known)

pub returns-in_err-src-clause-leaves : goal.returns-in_err-src-clause-leaves
returns-in_err-src-clause-leaves g c = λ all a file is at found file_is known none.
    let p = err_from_is_err_and c.from_residual.result c.from_residual.ensures.1 in
    rw (p.1, p.2) (limit_stops all ⊥ _ _ _ c.in_err-src.field-0.0 c.in_err-src.ensures.limit)

pub returns-clause-names : goal.returns-clause-names
returns-clause-names g c = λ all a file is at found file_is known.
    let old = c.args.self.now in
    let one : c.in-Some.archive ≡ a = some_of c.in-Some.archive a (c.in-Some.ensures ∙ ap (λ l. slice_get l c.args.archive) c.deref.ensures.value ∙ at) in
    of_archive (λ (x : OpenedArchive). (archive_of_input old.tables.archives.items x.input ≡ Some x) × (all.file x.input ≡ Some file) × (g.F.InputFiles.file c.args.files.now.files x.input ≡ Some file))
    (λ x. OnOk c.search-taken.result (KeepsRowNames all old c.search-taken.new.self)) one
    (λ h. c.search-taken.ensures.names all file is h.0 h.1 (c.in_ok-src.ensures.opens file h.2).1) (found, file_is, known)

pub returns-in_default-clause-spends : goal.returns-in_default-clause-spends
returns-in_default-clause-spends g c = spends_none c.args.files.now.budget

pub returns-in_err-src-clause-spends : goal.returns-in_err-src-clause-spends
returns-in_err-src-clause-spends g c = spends_same c.args.files.now.budget c.open.new.self.budget c.in_err-src.ensures.within

pub returns-clause-spends : goal.returns-clause-spends
returns-clause-spends g c =
    let within = c.in_ok-src.ensures.within in
    file_spends c.args.files.now.budget c.open.new.self.budget c.close.new.self.budget c.in_ok-src.src c.search-taken.new.src within.0 within.2 c.search-taken.ensures.most c.close.ensures.pays
