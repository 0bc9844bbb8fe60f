-- The first section with a hash table decides.
use Rattle.std.proofs.Common.{ap, ◌∙◌}
use Rattle.std.specs.Prelude.{option_map}
use Rattle.elf_hash.specs.HashSections.{found_at}
use Rattle.elf_table.proofs.Absent.{none-of}
use Rattle.elf_hash.proofs.SectionLaws.{sections_find, sections_none}
use Rattle.elf_hash.proofs.SettleLaws.{refuses}
use Rattle.elf_hash.proofs.by_sections.by_sections.Goals as goal

pub returns-in_default : goal.returns-in_default
returns-in_default c =
    rw c.refused.ensures
    (refuses _ (λ budget. cc) (λ bytes belongs other.
    sections_none bytes (c.hash_section.ensures.held bytes belongs ∙ ap (option_map (found_at bytes)) (none-of c.hash_section.result c.in_default.not-Some))))

pub returns : goal.returns
returns c = record {
  held = λ bytes belongs.
      sections_find bytes (found_at bytes (c.in-Some.kind, c.in-Some.section)) (c.hash_section.ensures.held bytes belongs ∙ ap (option_map (found_at bytes)) c.in-Some.is) _
      (c.section_lookup_tables.ensures.held bytes belongs);
  within = c.section_lookup_tables.ensures.within;
  refusal = c.section_lookup_tables.ensures.refusal;
}
