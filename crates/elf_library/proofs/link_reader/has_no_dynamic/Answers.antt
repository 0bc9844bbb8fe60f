-- The first segment of dynamic entries is found, or there is none.
use Rattle.std.proofs.Common.{is_none, ap, sym, ◌∙◌}
use Rattle.elf_hash.proofs.FoundLaws.{index_is}
use Rattle.elf_library.proofs.link_reader.has_no_dynamic.Goals as goal

pub returns-in-Some : goal.returns-in-Some
returns-in-Some c = λ file views. sym (ap is_none (index_is file ∙ (sym (c.first_segment.ensures.first file views) ∙ c.in-Some.is)))

pub returns-in-None : goal.returns-in-None
returns-in-None c = λ file views. sym (ap is_none (index_is file ∙ (sym (c.first_segment.ensures.first file views) ∙ c.in-None.is)))
