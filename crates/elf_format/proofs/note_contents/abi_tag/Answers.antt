-- The system's name, and its version.
use Rattle.std.proofs.Common.{Some, sym, ap, ◌∙◌}
use Rattle.elf_model.specs.NoteLines.{abi_systems}
use Rattle.elf_format.proofs.ContentLaws.{abi_none, abi_some}
use Rattle.elf_format.proofs.note_contents.abi_tag.Goals as goal

pub returns-in-Some-clause-content : goal.returns-in-Some-clause-content
unfolding abi_systems
returns-in-Some-clause-content c =
    let name = rw c.word_at.ensures at c.in-Some.ensures.name in
    ap (λ text. Some text) c.system_text.ensures.items ∙ sym (abi_some c.args.words.now c.in-Some.system.now (sym name))

pub returns-in-None-clause-content : goal.returns-in-None-clause-content
unfolding abi_systems
returns-in-None-clause-content c =
    let name = rw c.word_at.ensures at c.in-None.ensures.name in
    sym (abi_none c.args.words.now (sym name))
