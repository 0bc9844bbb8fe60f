-- The version index of a symbol is in the section.
use Rattle.std.proofs.Common.{arith}
use Rattle.elf_model.specs.Tables.{section_bytes}
use Rattle.elf_resolve.proofs.LibrarySymbolLaws.{word_found}
use Rattle.elf_resolve.proofs.library.VersionRows.index.Goals as goal

pub returns : goal.returns
returns c = λ file at held.
    word_found file c.args.strings.now.bytes c.bytes.result.now c.part_of-bytes.result.now at c.args.symbol c.saturating_mul-start.result c.u16_at.result c.args.self.now held
    (c.bytes.ensures (section_bytes file at) held.rows) c.part_of-bytes.ensures.fits (omega (arith, c.saturating_mul-start.ensures)) c.part_of-bytes.ensures.held c.part_of-bytes.ensures.none
    c.if-bytes-lt-INDEX_BYTES.false c.u16_at.ensures
