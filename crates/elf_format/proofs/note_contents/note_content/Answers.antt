-- The names of the types of cores.
use Rattle.std.proofs.Common.{sym, ◌∙◌}
use Rattle.elf_model.specs.NoteLines.{core_types, linux_core_types}
use Rattle.elf_format.proofs.ContentLaws.{core_content, linux_content}
use Rattle.elf_format.proofs.note_contents.note_content.Goals as goal

pub returns-then-is_text-2-clause-content : goal.returns-then-is_text-2-clause-content
unfolding core_types
returns-then-is_text-2-clause-content c =
    c.type_name.ensures.name
    ∙ sym (core_content c.args.name.now c.args.first.now c.args.kind c.args.has_more (sym c.is_text.ensures ∙ c.if-is_text.false) (sym c.is_text-2.ensures ∙ c.if-is_text-2.true))

pub returns-then-is_text-3-clause-content : goal.returns-then-is_text-3-clause-content
unfolding linux_core_types
returns-then-is_text-3-clause-content c =
    c.type_name-then-is_text-3.ensures.name
    ∙ sym (linux_content c.args.name.now c.args.first.now c.args.kind c.args.has_more (sym c.is_text.ensures ∙ c.if-is_text.false) (sym c.is_text-2.ensures ∙ c.if-is_text-2.false) (sym c.is_text-3.ensures ∙ c.if-is_text-3.true))
