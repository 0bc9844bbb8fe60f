use Rattle.std.proofs.Common.{ap, subst, ◌∙◌}
use Rattle.elf_resolve.specs.LinkMembers.{whole_file_of}
use Rattle.elf_resolve.specs.ResolvedInputs.{IsArchiveAt, OpenedAs}
use Rattle.elf_resolve.proofs.ResolvedLaws.{opened_members, search_found, searched_taken, whole_taken}
use Rattle.elf_resolve.proofs.TakenMemberLaws.{on_ok_then}
use Rattle.std.proofs.Common.{◌≡◌, true, false, refl, sym}
use Rattle.std.proofs.lemmas.Result.{err_from_is_err_and}
use Rattle.elf_model.specs.LinkInputs.{Linking}
use Rattle.elf_resolve.specs.EndsAtRefusal.{NoneRefused}
use Rattle.elf_resolve.specs.declared.archives.OpenedArchive.{OpenedArchive}
use Rattle.elf_resolve.proofs.RefusalLaws.{limit_stops}
use Rattle.elf_resolve.proofs.StopLaws.{leaves_as, opened_leaves, searched_makes, whole_makes}
use Rattle.elf_resolve.specs.declared.passes.Link.{Link}
use Rattle.elf_resolve.specs.declared.room.LinkRoom.{LinkRoom}
use Rattle.elf_resolve.proofs.NamedRowLaws.{rows_still}
use Rattle.elf_resolve.proofs.resolver.Resolver.take_archive.Goals as goal

pub returns-then-is_whole-clause-takes : goal.returns-then-is_whole-clause-takes
returns-then-is_whole-clause-takes g c = λ files file is at.
    let read = c.in_ok-archive.ensures.opens file at.seen_is is.marked in
    let archive = c.in_ok-archive.archive in
    let opened = subst (λ w. OpenedAs file w c.args.input c.args.self.now c.open_archive.new.self archive) c.if-is_whole.true read in
    let at_whole = subst (λ w. IsArchiveAt files file c.args.self.now c.args.src.now.seen w c.args.input) c.if-is_whole.true at in
    on_ok_then _ _ c.take_whole.result (whole_taken files file c.args.src.now.seen c.args.input c.args.self.now c.open_archive.new.self c.take_whole.new.self archive is at_whole opened)
    (c.take_whole.ensures.takes file (ap whole_file_of c.in_ok-archive.ensures.below ∙ at.below) (opened_members file _ c.args.input c.args.self.now c.open_archive.new.self archive opened))

pub returns-clause-takes : goal.returns-clause-takes
returns-clause-takes g c = λ files file is at.
    let read = c.in_ok-archive.ensures.opens file at.seen_is is.marked in
    let archive = c.in_ok-archive.archive in
    let opened = subst (λ w. OpenedAs file w c.args.input c.args.self.now c.open_archive.new.self archive) c.if-is_whole.false read in
    let at_searched = subst (λ w. IsArchiveAt files file c.args.self.now c.args.src.now.seen w c.args.input) c.if-is_whole.false at in
    let kept = c.in_ok-keep_archive.ensures.keeps in
    let found = search_found files file c.args.src.now.seen c.args.input c.args.self.now c.open_archive.new.self c.keep_archive.new.self archive is at_searched opened kept in
    on_ok_then _ _ c.search.result (searched_taken files file c.args.src.now.seen c.args.input c.args.self.now c.open_archive.new.self c.keep_archive.new.self c.search.new.self archive is at_searched opened kept)
    (c.search.ensures.searches files file found.0 found.1 found.2 (ap whole_file_of c.in_ok-archive.ensures.below ∙ at.below))

pub returns-in_err-archive-clause-leaves : goal.returns-in_err-archive-clause-leaves
returns-in_err-archive-clause-leaves g c = λ files file is at none.
    let p = err_from_is_err_and c.from_residual.result c.from_residual.ensures.1 in
    rw (p.1, p.2) (c.in_err-archive.ensures.stops files file at none)

pub returns-then-is_whole-clause-leaves : goal.returns-then-is_whole-clause-leaves
returns-then-is_whole-clause-leaves g c = λ files file is at none.
    let read = c.in_ok-archive.ensures.opens file at.seen_is is.marked in
    let archive = c.in_ok-archive.archive in
    let old = c.args.self.now in
    let opened = subst (λ w. OpenedAs file w c.args.input old c.open_archive.new.self archive) c.if-is_whole.true read in
    let at_whole = subst (λ w. IsArchiveAt files file old c.args.src.now.seen w c.args.input) c.if-is_whole.true at in
    let input_is : archive.input ≡ c.args.input = ap (λ (a : OpenedArchive). a.input) opened.archive_is in
    leaves_as files ⊥ c.take_whole.new.self c.take_whole.new.self _ _ c.take_whole.result refl refl
    (ap (λ (l : Linking). l.rows) (whole_makes files file c.args.src.now.seen c.args.input old c.open_archive.new.self archive is at_whole opened))
    (c.take_whole.ensures.leaves files file (ap whole_file_of c.in_ok-archive.ensures.below ∙ at.below) (opened_members file _ c.args.input old c.open_archive.new.self archive opened)
    (sym is.headers ∙ sym opened.steps.headers) (ap files.file input_is ∙ at.file_is) (opened_leaves files file old c.args.src.now.seen true c.args.input at_whole c.open_archive.new.self archive opened none))

pub returns-in_err-keep_archive-clause-leaves : goal.returns-in_err-keep_archive-clause-leaves
returns-in_err-keep_archive-clause-leaves g c = λ files file is at none.
    let p = err_from_is_err_and c.from_residual-in_err-keep_archive.result c.from_residual-in_err-keep_archive.ensures.1 in
    rw (p.1, p.2) (limit_stops files ⊥ _ _ _ c.in_err-keep_archive.field-0.0 c.in_err-keep_archive.ensures.limit)

pub returns-clause-leaves : goal.returns-clause-leaves
returns-clause-leaves g c = λ files file is at none.
    let read = c.in_ok-archive.ensures.opens file at.seen_is is.marked in
    let archive = c.in_ok-archive.archive in
    let old = c.args.self.now in
    let opened = subst (λ w. OpenedAs file w c.args.input old c.open_archive.new.self archive) c.if-is_whole.false read in
    let at_searched = subst (λ w. IsArchiveAt files file old c.args.src.now.seen w c.args.input) c.if-is_whole.false at in
    let kept = c.in_ok-keep_archive.ensures.keeps in
    let found = search_found files file c.args.src.now.seen c.args.input old c.open_archive.new.self c.keep_archive.new.self archive is at_searched opened kept in
    leaves_as files ⊥ c.search.new.self c.search.new.self _ _ c.search.result refl refl
    (ap (λ (l : Linking). l.rows) (searched_makes files file c.args.src.now.seen c.args.input old c.open_archive.new.self c.keep_archive.new.self archive is at_searched opened kept))
    (c.search.ensures.leaves files file found.0 found.1 found.2 (ap whole_file_of c.in_ok-archive.ensures.below ∙ at.below)
    (subst (λ l. NoneRefused files l.rows.rows) (sym kept.link) (opened_leaves files file old c.args.src.now.seen false c.args.input at_searched c.open_archive.new.self archive opened none)))

pub returns-then-is_whole-clause-names : goal.returns-then-is_whole-clause-names
returns-then-is_whole-clause-names g c = λ files file is at.
    let opened = c.in_ok-archive.ensures.opens file at.seen_is is.marked in
    let archive = c.in_ok-archive.archive in
    let file_is = ap (λ (a : OpenedArchive). files.file a.input) opened.archive_is ∙ at.file_is in
    on_ok_then _ _ c.take_whole.result (λ keep held. keep (c.in_ok-archive.ensures.names files held))
    (c.take_whole.ensures.names files file file_is (ap whole_file_of c.in_ok-archive.ensures.below ∙ at.below) (opened_members file _ c.args.input c.args.self.now c.open_archive.new.self archive opened))

pub returns-clause-names : goal.returns-clause-names
returns-clause-names g c = λ files file is at.
    let read = c.in_ok-archive.ensures.opens file at.seen_is is.marked in
    let archive = c.in_ok-archive.archive in
    let opened = subst (λ w. OpenedAs file w c.args.input c.args.self.now c.open_archive.new.self archive) c.if-is_whole.false read in
    let at_searched = subst (λ w. IsArchiveAt files file c.args.self.now c.args.src.now.seen w c.args.input) c.if-is_whole.false at in
    let kept = c.in_ok-keep_archive.ensures.keeps in
    let found = search_found files file c.args.src.now.seen c.args.input c.args.self.now c.open_archive.new.self c.keep_archive.new.self archive is at_searched opened kept in
    let still = rows_still files c.open_archive.new.self c.keep_archive.new.self (ap (λ (r : LinkRoom). r.names) c.keep_archive.ensures.names) (ap (λ (l : Link). l.rows.rows) kept.link) in
    on_ok_then _ _ c.search.result (λ keep held. keep (still (c.in_ok-archive.ensures.names files held)))
    (c.search.ensures.names files file found.0 found.1 found.2 (ap whole_file_of c.in_ok-archive.ensures.below ∙ at.below))
