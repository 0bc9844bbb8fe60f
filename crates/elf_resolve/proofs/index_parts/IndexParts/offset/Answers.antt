use Rattle.std.proofs.Common.{◌≡◌, ◌*◌, arith}
use Rattle.elf_model.specs.Bytes.{slice}
use Rattle.elf_resolve.proofs.IndexLaws.{offset_read, place_within}
use Rattle.elf_resolve.proofs.index_parts.IndexParts.offset.Goals as goal

pub returns : goal.returns
returns c = λ bytes start held below.
    let parts = c.args.self.now in
    let within = place_within parts.width c.args.index parts.count below in
    let from : c.saturating_mul-start.result ≡ parts.width * c.args.index = omega (arith, c.saturating_mul-start.ensures, within, held.enough, held.fits) in
    offset_read bytes c.bytes.result.now parts.width c.args.index parts.count c.saturating_mul-start.result c.number_at.result below held.enough
    (c.bytes.ensures (slice bytes parts.width (parts.width * parts.count)) held.offsets) from c.number_at.ensures
