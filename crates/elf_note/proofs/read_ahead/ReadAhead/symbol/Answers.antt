-- The symbol is where the buffer was filled.
use Rattle.std.proofs.Common.{◌≡◌, ℕ, ◌-◌, min, ap, ◌∙◌, arith}
use Rattle.elf_model.specs.Bytes.{slice}
use Rattle.elf_table.specs.Cursors.{row_at}
use Rattle.elf_note.specs.Ahead.{reach}
use Rattle.elf_note.proofs.HeldLaws.{part-of_file}
use Rattle.elf_note.proofs.read_ahead.ReadAhead.symbol.Goals as goal

pub returns-clause-read : goal.returns-clause-read
returns-clause-read g c = λ file h a.
    let b = c.in_ok-fill_buf.ensures in
    let held = c.fill_buf.new.self in
    let at = c.place-at.result in
    let ends = b.brings.ends in
    let known = rw (← c.self.view_is) at a in
    let wide : min 24 (reach held - at) ≡ 24 = omega arith in
    c.decode.ensures.is_at file (row_at c.args.table.now c.args.index)
    (c.whole.ensures
    ∙ part-of_file file _ held at 24 (b.agrees file h known.symbols) b.brings.begins ends (c.part.ensures.part ∙ ap (slice held.bytes (at - held.at)) wide)
    ∙ ap (λ (x : ℕ). slice file x 24) c.place-at.ensures)
