-- The parts of an object are taken one after the other.
use Rattle.std.proofs.Common.{◌≡◌, ℕ, [], subst, ◌∙◌}
use Rattle.std.proofs.lemmas.Result.{err_from_is_err_and}
use Rattle.elf_model.specs.LinkObjects.{groups_taken}
use Rattle.elf_model.specs.Records.{e_shnum}
use Rattle.elf_source.proofs.ReadsLaws.{KeepsSource-then}
use Rattle.elf_resolve.specs.SectionGroups.{none_dropped}
use Rattle.elf_resolve.specs.SectionMarks.{MarksDropped}
use Rattle.elf_resolve.proofs.ObjectTaken.{sections_loaded, sections_then, symbols_then, tables_kept}
use Rattle.elf_resolve.proofs.object.take_sections.Goals as goal

pub returns-in_err-note_sections-clause-takes : goal.returns-in_err-note_sections-clause-takes
returns-in_err-note_sections-clause-takes g c = λ file known held.
    let counted : c.sections.result ≡ e_shnum file = c.sections.ensures ∙ sections_loaded file c.args.view.now.loaded c.args.view.now.store.now held in
    let cleared = subst (λ (n : ℕ). MarksDropped n c.clear.new.self []) counted c.clear.ensures in
    let tables = c.in_ok-tables.ensures.reads file known held in
    let groups = c.in_ok-drop_groups.ensures.drops file (c.read_tables.ensures.keeps.same_file ∙ known) held tables.holds cleared in
    let kept = tables_kept file c.read_tables.new.strings.bytes c.drop_groups.new.strings.bytes c.in_ok-tables.tables c.drop_groups.ensures.stays.first tables.holds in
    let dropped = (groups_taken (none_dropped c.args.keys.now) groups.groups).sections in
    let p = err_from_is_err_and c.from_residual-in_err-note_sections.result c.from_residual-in_err-note_sections.ensures.1 in
    rw (p.1, p.2)
    (sections_then file c.in_err-note_sections.field-0.0 c.args.keys.now c.drop_groups.new.keys c.drop_groups.new.marks tables.pass groups
    (c.in_err-note_sections.ensures file dropped held kept groups.marked))

pub returns-clause-takes : goal.returns-clause-takes
returns-clause-takes g c = λ file known held.
    let counted : c.sections.result ≡ e_shnum file = c.sections.ensures ∙ sections_loaded file c.args.view.now.loaded c.args.view.now.store.now held in
    let cleared = subst (λ (n : ℕ). MarksDropped n c.clear.new.self []) counted c.clear.ensures in
    let tables = c.in_ok-tables.ensures.reads file known held in
    let groups = c.in_ok-drop_groups.ensures.drops file (c.read_tables.ensures.keeps.same_file ∙ known) held tables.holds cleared in
    let kept = tables_kept file c.read_tables.new.strings.bytes c.drop_groups.new.strings.bytes c.in_ok-tables.tables c.drop_groups.ensures.stays.first tables.holds in
    let dropped = (groups_taken (none_dropped c.args.keys.now) groups.groups).sections in
    symbols_then file c.args.row c.args.keys.now c.drop_groups.new.keys c.note_sections.new.keys c.take_symbols.new.keys c.drop_groups.new.marks c.take_symbols.result tables.pass groups
    (c.in_ok-note_sections.ensures file dropped held kept groups.marked) (c.take_symbols.ensures file (e_shnum file) dropped kept groups.marked)

pub returns-in_err-drop_groups-clause-keeps : goal.returns-in_err-drop_groups-clause-keeps
returns-in_err-drop_groups-clause-keeps g c = KeepsSource-then c.read_tables.ensures.keeps c.drop_groups.ensures.keeps

pub returns-in_err-note_sections-clause-keeps : goal.returns-in_err-note_sections-clause-keeps
returns-in_err-note_sections-clause-keeps g c = KeepsSource-then c.read_tables.ensures.keeps c.drop_groups.ensures.keeps

pub returns-clause-keeps : goal.returns-clause-keeps
returns-clause-keeps g c = KeepsSource-then c.read_tables.ensures.keeps c.drop_groups.ensures.keeps
