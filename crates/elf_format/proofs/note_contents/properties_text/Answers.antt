-- The properties before the end of the walk, if they are shown.
use Rattle.std.proofs.Common.{Some, ◌++◌, ap, ◌∙◌}
use Rattle.elf_model.specs.NoteLines.{descriptor_mark}
use Rattle.elf_format.proofs.ContentLaws.{hidden_by, shown_by}
use Rattle.elf_format.proofs.note_contents.properties_text.Goals as goal

pub returns-then-not-is_shown-clause-content : goal.returns-then-not-is_shown-clause-content
returns-then-not-is_shown-clause-content c =
    hidden_by c.args.first.now c.args.has_more _ _ _ c.put_properties-end.ensures.empty c.put_properties-end.ensures.cut c.is_shown.ensures c.if-not-is_shown.true

pub returns-clause-content : goal.returns-clause-content
returns-clause-content c =
    let text = rw c.new-text.ensures at c.put_properties-end.ensures.items in
    ap (λ items. Some items) (c.put_mark.ensures.items ∙ ap (λ items. items ++ descriptor_mark c.args.has_more) text)
    ∙ shown_by c.args.first.now c.args.has_more _ _ _ c.put_properties-end.ensures.empty c.put_properties-end.ensures.cut c.is_shown.ensures c.if-not-is_shown.false
