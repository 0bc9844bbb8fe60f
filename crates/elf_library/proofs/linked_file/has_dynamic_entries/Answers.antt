-- The first program header of a type is that of the file.
use Rattle.std.proofs.Common.{ℕ, Option, ap, sym, ◌∙◌}
use Rattle.std.specs.Prelude.{is_some}
use Rattle.elf_hash.proofs.FoundLaws.{index_is}
use Rattle.elf_library.proofs.linked_file.has_dynamic_entries.Goals as goal

pub returns : goal.returns
returns c =
    λ file views. c.is_some.ensures ∙ ap (λ (found : Option ℕ). is_some found) (c.first_segment.ensures.first file views ∙ sym (index_is file))
