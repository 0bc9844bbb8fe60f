-- The limit is removed, and the bytes are copied.
use Rattle.std.proofs.Common.{refl, rules, ap, ◌∙◌, arith}
use Rattle.elf_source.specs.Source.{SourceState}
use Rattle.elf_reloc.proofs.section_bytes.write_range.Goals as goal

pub copy-requires : goal.copy-requires
copy-requires g c = record {
  free = c.limit.ensures.most;
  within = omega (arith, c.requires.within, ap (λ (s : SourceState). s.size) c.limit.ensures.seen);
  fits = omega (arith, c.requires.fits, ap (λ (s : SourceState). s.size) c.limit.ensures.seen);
}
