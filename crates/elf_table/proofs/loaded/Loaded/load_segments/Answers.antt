-- The program headers that were read are the file's.
use Rattle.std.proofs.Common.{ap, ◌∙◌}
use Rattle.elf_table.specs.Store.{StoreState}
use Rattle.elf_table.proofs.ViewLaws.{views_read}
use Rattle.elf_table.proofs.loaded.Loaded.load_segments.Goals as goal

pub returns-clause-held : goal.returns-clause-held
returns-clause-held g c = λ file same belongs.
    let header = c.header-header.ensures.value in
    let e = c.fill_segments.ensures in
    views_read c.fill_segments.result file c.args.self.now c.args.store.now c.fill_segments.new.self belongs c.requires.unsectioned
    (e.slots ∙ ap (λ (s : StoreState). s.slots) c.forget.ensures) e.loaded (rw header at e.segments) (rw header at (e.rows file same))
